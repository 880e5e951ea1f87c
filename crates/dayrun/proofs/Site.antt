-- Terms are the same where their numbers are.
use Rattle.std.proofs.Common.{◌≡◌, ◌≤◌}
use mathlib.Core.HLevel.{is_prop→PathP}
use native.Mathlib.Bridge.{le_prop}
use Rattle.domain.specs.Limits.{fewest_places, most_places, most_days, most_capacity}
use Rattle.domain.specs.declared.terms.Terms.{Terms}

pub same_terms : (t u : Terms) → t.places ≡ u.places → t.days ≡ u.days → t.capacity ≡ u.capacity → t ≡ u
same_terms t u p d c = λ j. record {
  places = p j;
  days = d j;
  capacity = c j;
  shared = is_prop→PathP (λ k. fewest_places ≤ p k) (λ k. le_prop) t.shared u.shared j;
  few = is_prop→PathP (λ k. p k ≤ most_places) (λ k. le_prop) t.few u.few j;
  some = is_prop→PathP (λ k. 1 ≤ d k) (λ k. le_prop) t.some u.some j;
  season = is_prop→PathP (λ k. d k ≤ most_days) (λ k. le_prop) t.season u.season j;
  room = is_prop→PathP (λ k. c k ≤ most_capacity) (λ k. le_prop) t.room u.room j;
}
