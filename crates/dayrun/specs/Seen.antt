-- The code's two files, by what they say.
use Rattle.files.specs.Reads.{told_schedule, told_readings}
use Rattle.dayrun.specs.Files.{Files}
use Rattle.dayrun.specs.declared.DayFiles.{DayFiles}

-- what the two files say
abbrev pub files_seen : DayFiles → Files
files_seen f = record { schedule = told_schedule f.schedule; readings = told_readings f.readings }
