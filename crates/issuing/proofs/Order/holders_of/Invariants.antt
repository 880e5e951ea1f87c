use Rattle.std.proofs.Common.{◌≡◌, ℕ, ◌<◌, length, get_or, None}
use Rattle.issuing.specs.InForce.{is_ended, supplier_of}
use Rattle.issuing.specs.Sheets.{bad_holder}
use Rattle.issuing.proofs.Order.holders_of.Given as goal

abbrev pub invariant-loop-place : goal.invariant-loop-place
invariant-loop-place g l =
    let ended = is_ended l.self.standing.ended l.self.day in
    (bad_holder l.place l.held.entries.now ended l.self.day ≡ None) × ((q : ℕ) → q < l.place → get_or l.holders q None ≡ supplier_of l.held.entries.now ended l.self.day q) × (length l.holders ≡ 8)
