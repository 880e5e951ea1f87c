-- What is printed of a reading.
use Rattle.std.specs.Prelude.{ℕ, List, ◌++◌, codes, decimal}
use Rattle.files.specs.declared.records.ReadingRecord.{ReadingRecord}

-- a reading: its day, period, quality and kWh
abbrev pub reading_text : ReadingRecord → List ℕ
reading_text r = decimal r.day ++ (codes " " ++ (decimal r.period ++ (codes " " ++ (decimal r.quality ++ (codes " " ++ decimal r.kwh)))))
