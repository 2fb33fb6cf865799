-- What the words of the program for texts of any size ask for.
use Rattle.std.specs.Prelude.{Bool, List, Option, Some, None, codes, true, false, if◌then◌else◌}
use Rattle.std.specs.Prelude.{option_map}
use Rattle.std.specs.Str.{bytes_eq}
use Rattle.clap.specs.Words.{App, Row, Rule, Text, all_of, fault_of, first_of, matches_of, new_app}
use Rattle.clap.specs.Words.{new_rule, subcommand_of, with_rule}
use Rattle.clap.specs.declared.builder.ArgAction.TheVariants.{Append, Set, SetTrue}
use Rattle.command_words.specs.Number.{number_32}
use Rattle.command_words.specs.Changes.{changes_of}
use Rattle.command_words.specs.Program.{and_then, plain_app, with_option}
use Rattle.command_words.specs.Request.{is_accepted, number_at}
use Rattle.command_words.specs.declared.large.AccountRequest.{AccountRequest}
use Rattle.command_words.specs.declared.large.AccountRequest.TheVariants.{Sums, Rows, Path}
use Rattle.command_words.specs.declared.large.DocumentRequest.TheVariants.{Account, Check}
use Rattle.command_words.specs.declared.large.DocumentRequest.TheVariants.{Places, Relaxation}
use Rattle.command_words.specs.declared.large.DocumentRequest.TheVariants.{Replay}
use Rattle.command_words.specs.declared.large.DocumentRequest.TheVariants as of_document
use Rattle.command_words.specs.declared.large.LargeRequest.{LargeRequest}
use Rattle.command_words.specs.declared.large.LargeRequest.TheVariants.{OfDocument, OfMeter, OfTable}
use Rattle.command_words.specs.declared.large.LargeRequest.TheVariants.{OfText}
use Rattle.command_words.specs.declared.large.MeterRequest.TheVariants.{Bounds, Numbers}
use Rattle.command_words.specs.declared.large.TableRequest.TheVariants.{Curve, Graph, Greedy}
use Rattle.command_words.specs.declared.large.TableRequest.TheVariants.{Slack, WhatIf}
use Rattle.command_words.specs.declared.large.TextRequest.TheVariants.{Certify, Show}

-- neither `help` nor `--help` is a word of the program
abbrev pub no_large_commands : App
no_large_commands =
    let app = new_app (codes "spanprof_large") in
    record app { top = record app.top { disable_help_flag = true; disable_help_subcommand = true } }

-- `--upto VALUE`, at most once
abbrev pub upto_rule : Rule
upto_rule = record (new_rule (codes "upto")) { long = Some (codes "upto"); action = Some Set }

abbrev pub with_upto : App → App
with_upto app = with_rule app upto_rule

-- the commands that need no table of the text
abbrev pub with_measures : App → App
with_measures app =
    let span = and_then app (plain_app (codes "span")) in
    and_then span (with_option (codes "bounds") (codes "upto"))

-- and those that write the canonical text
abbrev pub with_texts : App → App
with_texts app =
    let show = and_then app (plain_app (codes "show")) in
    and_then show (plain_app (codes "certify"))

-- `--FLAG`, at most once
abbrev pub flag_rule : Text → Rule
flag_rule flag = record (new_rule flag) { long = Some flag; action = Some SetTrue }

abbrev pub with_flag : App → Text → App
with_flag app flag = with_rule app (flag_rule flag)

-- any number of words
abbrev pub any_changes_rule : Rule
any_changes_rule = record (new_rule (codes "changes")) { action = Some Append }

abbrev pub what_if_app : App
what_if_app = with_flag (with_rule (new_app (codes "whatif")) any_changes_rule) (codes "listed")

-- and those that need it
abbrev pub with_tables : App → App
with_tables app =
    let slack = and_then app (plain_app (codes "slack")) in
    let greedy = and_then slack (with_option (codes "greedy") (codes "threads")) in
    let curve = and_then greedy (with_option (codes "curve") (codes "upto")) in
    let whatif = and_then curve what_if_app in
    and_then whatif (plain_app (codes "graph"))

abbrev pub account_app : App
account_app = with_flag (with_flag (new_app (codes "account")) (codes "rows")) (codes "path")

-- and those of documents
abbrev pub with_documents : App → App
with_documents app =
    let account = and_then app account_app in
    let replay = and_then account (plain_app (codes "replay")) in
    let check = and_then replay (plain_app (codes "check")) in
    let places = and_then check (plain_app (codes "places")) in
    and_then places (plain_app (codes "relaxation"))

unfoldable pub large_program : App
large_program =
    with_documents (with_texts (with_tables (with_measures (with_upto no_large_commands))))

-- whether a flag stands among the words
abbrev pub is_true : Option Text → Bool
is_true None = false
is_true (Some text) = bytes_eq text (codes "true")

abbrev pub is_set : Text → List Row → Bool
is_set flag rows = is_true (first_of flag rows)

-- without flags these are the sums, and both of them ask for nothing
abbrev pub account_by : (rows path : Bool) → Option AccountRequest
account_by false false = Some Sums
account_by true false = Some Rows
account_by false true = Some Path
account_by true true = None

abbrev pub account_in : List Row → Option AccountRequest
account_in rows = account_by (is_set (codes "rows") rows) (is_set (codes "path") rows)

abbrev pub list_asked : (listed : Bool) → Option LargeRequest
list_asked true = Some (OfDocument of_document.WhatIf)
list_asked false = None

abbrev pub changes_asked : (listed : Bool) → List Text → Option LargeRequest
changes_asked true words = None
changes_asked false words = option_map (λ changes. OfTable (WhatIf changes)) (changes_of words)

-- changes, or a list of them, and not both
abbrev pub what_if_by : (listed : Bool) → Option (List Text) → Option LargeRequest
what_if_by listed None = list_asked listed
what_if_by listed (Some words) = changes_asked listed words

abbrev pub what_if_in : List Row → Option LargeRequest
what_if_in rows = what_if_by (is_set (codes "listed") rows) (all_of (codes "changes") rows)

-- without the option these are the numbers of a text, and with it the bounds
abbrev pub asked_by : Option Text → Option LargeRequest
asked_by None = Some (OfMeter Numbers)
asked_by (Some value) = option_map (λ upto. OfMeter (Bounds upto)) (number_32 value)

-- what a command of this name asks for, with what was found for its arguments
abbrev pub large_request_named : Text → List Row → Option LargeRequest
large_request_named name rows =
    if bytes_eq name (codes "span") then Some (OfMeter Numbers)
    else if bytes_eq name (codes "bounds") then option_map (λ upto. OfMeter (Bounds upto))
    (number_at (codes "upto") rows)
    else if bytes_eq name (codes "slack") then Some (OfTable Slack)
    else if bytes_eq name (codes "greedy") then option_map (λ threads. OfTable (Greedy threads))
    (number_at (codes "threads") rows)
    else if bytes_eq name (codes "curve") then option_map (λ upto. OfTable (Curve upto))
    (number_at (codes "upto") rows)
    else if bytes_eq name (codes "whatif") then what_if_in rows
    else if bytes_eq name (codes "graph") then Some (OfTable Graph)
    else if bytes_eq name (codes "show") then Some (OfText Show)
    else if bytes_eq name (codes "certify") then Some (OfText Certify)
    else if bytes_eq name (codes "account") then option_map (λ told. OfDocument (Account told))
    (account_in rows)
    else if bytes_eq name (codes "replay") then Some (OfDocument Replay)
    else if bytes_eq name (codes "check") then Some (OfDocument Check)
    else if bytes_eq name (codes "places") then Some (OfDocument Places)
    else if bytes_eq name (codes "relaxation") then Some (OfDocument Relaxation)
    else None

-- the option stands before no command
abbrev pub request_behind : Option Text → Text → List Row → Option LargeRequest
request_behind None name rows = large_request_named name rows
request_behind (Some value) name rows = None

abbrev pub large_request_by : Option Text → Option (Text × List Row) → Option LargeRequest
large_request_by upto None = asked_by upto
large_request_by upto (Some command) = request_behind upto command.0 command.1

abbrev pub large_request_in : List Row → Option (Text × List Row) → Option LargeRequest
large_request_in rows command = large_request_by (first_of (codes "upto") rows) command

-- what the words ask for, where clap accepts them and each value is a number
unfoldable pub large_request_of : List Text → Option LargeRequest
large_request_of words =
    if is_accepted (fault_of large_program words)
    then large_request_in (matches_of large_program words) (subcommand_of large_program words)
    else None
