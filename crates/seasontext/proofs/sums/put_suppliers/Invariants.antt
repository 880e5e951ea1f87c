use Rattle.std.proofs.Common.{◌≡◌, ◌++◌, string_bytes}
use Rattle.std.specs.List.{flat_map}
use Rattle.seasontext.specs.Sums.{supplier_text}
use Rattle.seasontext.proofs.sums.put_suppliers.Given as goal

abbrev pub invariant-loop-supplier : goal.invariant-loop-supplier
invariant-loop-supplier l =
    string_bytes l.text ++ flat_map (supplier_text l.lines) l.supplier-iterator ≡ string_bytes l.initial.text ++ flat_map (supplier_text l.lines) l.suppliers.keys
