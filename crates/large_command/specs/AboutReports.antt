-- What the program says about itself.
use Rattle.std.specs.Prelude.{ℕ, List}
use Rattle.command_words.specs.declared.about.About.{About}
use Rattle.command_words.specs.declared.about.About.TheVariants.{Help, Version}
use Rattle.spanprof_command.specs.Report.{Report}
use Rattle.spanprof_command.specs.declared.report.Status.TheVariants.{Done}
use Rattle.large_command.specs.declared.about.TheConstants.{HELP, VERSION}

abbrev pub about_text : About → List ℕ
about_text Help = HELP.now
about_text Version = VERSION.now

abbrev pub about_report : About → Report
about_report about = record { text = about_text about; status = Done }
