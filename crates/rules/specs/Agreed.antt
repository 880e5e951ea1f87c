-- A row of the code, as what the parties agreed.
use Rattle.rules.specs.Meaning.{Agreement}
use Rattle.rules.specs.declared.Row.{Row}

-- what the parties agreed, as the row of the code holds it
abbrev pub agreed : Row → Agreement
agreed r =
    record { method = r.method; capacity = r.capacity; nominations = r.nominations.now; balance = r.balance }
