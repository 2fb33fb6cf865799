-- What words ask about the program for texts of any size itself.
use Rattle.std.specs.Prelude.{List, [], ◌∷◌, Option, Some, None, codes, if◌then◌else◌}
use Rattle.std.specs.Str.{bytes_eq}
use Rattle.clap.specs.Words.{Text}
use Rattle.command_words.specs.declared.about.About.{About}
use Rattle.command_words.specs.declared.about.About.TheVariants.{Help, Version}

abbrev pub about_named : Text → Option About
about_named word =
    if bytes_eq word (codes "help") then Some Help
    else if bytes_eq word (codes "--help") then Some Help
    else if bytes_eq word (codes "-h") then Some Help
    else if bytes_eq word (codes "--version") then Some Version
    else if bytes_eq word (codes "-V") then Some Version
    else None

-- one word behind the program's name
abbrev pub about_of : List Text → Option About
about_of [] = None
about_of (name ∷ []) = None
about_of (name ∷ word ∷ []) = about_named word
about_of (name ∷ word ∷ next ∷ words) = None
