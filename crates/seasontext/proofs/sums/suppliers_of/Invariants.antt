use Rattle.std.proofs.Common.{◌≡◌, ℕ, ◌<◌, true, take}
use Rattle.std.specs.BTreeSet.{contains}
use Rattle.std.specs.List.Sorted.{IsStrictlySortedBy}
use Rattle.std.specs.Ordering.{nat_cmp}
use Rattle.seasontext.specs.Sums.{suppliers, sent_to}
use Rattle.seasontext.proofs.sums.suppliers_of.Given as goal

abbrev pub invariant-loop-line : goal.invariant-loop-line
invariant-loop-line l = record {
  ascending : IsStrictlySortedBy nat_cmp l.suppliers.keys;
  sent : (k : ℕ) → contains nat_cmp l.suppliers k ≡ sent_to k (take l.line-index l.lines);
  few : (k : ℕ) → contains nat_cmp l.suppliers k ≡ true → k < suppliers;
}
