-- Calls one after the other, up to the first refusal.
use Rattle.std.proofs.Common.{◌≡◌, ℕ, List, [], ◌∷◌, ◌++◌, take, IfOk, Ok, Err, Result, sym, refl, ap, ◌∙◌, subst, Bor}
use Rattle.domain.specs.Checks.{and_then}
use Rattle.domain.specs.declared.AllocationRow.{AllocationRow}
use Rattle.domain.specs.declared.Fault.{Fault}
use Rattle.domain.specs.declared.Line.{Line}
use Rattle.domain.specs.declared.terms.Terms.{Terms}
use Rattle.rules.specs.House.{house}
use Rattle.files.specs.declared.records.ReadingRecord.{ReadingRecord}
use Rattle.season.specs.Lent.{lent}
use Rattle.season.specs.Outcomes.{outcome}
use Rattle.season.specs.Steps.{State, step}
use Rattle.season.specs.declared.Accepted.{Accepted}
use Rattle.season.specs.declared.Call.{Call}
use Rattle.season.specs.declared.Call.TheVariants as call
use Rattle.dayrun.specs.Calls.{run_until, day_calls, day_sent}
use Rattle.dayrun.specs.Texts.{answer_text}

through : (o : Result Accepted Fault) (r : Result State Fault) (next : State → Result State Fault) {x : Result State Fault} → x ≡ and_then r next → and_then o (λ _. x) ≡ and_then (and_then o (λ _. r)) next
through (Ok a) r next e = e
through (Err f) r next e = refl

module _ (t : Terms) where
  -- a call is accepted
  pub made : (c : Call) (st : State) {after : State} {a : Accepted} → Ok a ≡ outcome t house st c → after ≡ step t house st c → Ok after ≡ run_until t st (c ∷ [])
  unfolding run_until
  made c st ok is = ap Ok is ∙ ap (λ x. and_then x (λ _. Ok (step t house st c))) ok

  -- a call is refused
  pub refused : (c : Call) (st : State) {f : Fault} → Err f ≡ outcome t house st c → Err f ≡ run_until t st (c ∷ [])
  unfolding run_until
  refused c st e = ap (λ x. and_then x (λ _. Ok (step t house st c))) e

  -- no call is made
  pub none : (st : State) → run_until t st [] ≡ Ok st
  unfolding run_until
  none st = refl

  -- where the rows of a schedule lie plays no part
  pub lent_same : (sender day moment : ℕ) (rows : Bor (List AllocationRow)) (st : State) → run_until t st (call.Schedule sender day moment rows ∷ []) ≡ run_until t st (call.Schedule sender day moment (lent rows.now) ∷ [])
  unfolding run_until
  lent_same sender day moment rows st = refl

  joined : (cs ds : List Call) (st : State) → run_until t st (cs ++ ds) ≡ and_then (run_until t st cs) (λ s. run_until t s ds)
  unfolding run_until
  joined [] ds st = refl
  joined (c ∷ cs) ds st = through (outcome t house st c) (run_until t (step t house st c) cs) (λ s. run_until t s ds) (joined cs ds (step t house st c))

  -- the same terms
  pub under : (cs : List Call) (st : State) {u : Terms} {x : Result State Fault} → u ≡ t → x ≡ run_until u st cs → x ≡ run_until t st cs
  under cs st same e = e ∙ ap (λ v. run_until v st cs) same

  -- after some calls come the others
  pub on : (cs ds : List Call) (st : State) {u : Terms} {x : Result State Fault} → u ≡ t → x ≡ run_until u st cs → and_then x (λ s. run_until t s ds) ≡ run_until t st (cs ++ ds)
  on cs ds st {u} same e =
      ap (λ y. and_then y (λ s. run_until t s ds)) (under cs st same e) ∙ sym (joined cs ds st)

  -- the day's lines, or its refusal
  pub day_ends : (sender day moment : ℕ) (rows : List AllocationRow) (readings : List ReadingRecord) (st : State) {u : Terms} {was : State} {x : Result State Fault} → u ≡ t → st ≡ was → x ≡ run_until u st (day_calls sender day moment rows readings) → and_then x (λ s. Ok (take s.kept.lines s.journal)) ≡ day_sent t was sender day moment rows readings
  unfolding day_sent
  day_ends sender day moment rows readings st {u} {was} same begun e =
      let calls = day_calls sender day moment rows readings in
      ap (λ y. and_then y (λ s. Ok (take s.kept.lines s.journal))) (under calls st same e ∙ ap (λ s. run_until t s calls) begun)

-- the text of an answer is the text of what it is to be
pub put_more : {A E : Type 0} (r : Result A E) (a b : List ℕ) {x y : Result (List Line) Fault} → x ≡ y → IfOk r (λ _. a ≡ b ++ answer_text x) → IfOk r (λ _. a ≡ b ++ answer_text y)
put_more r a b e h = let P : Result (List Line) Fault → Type 0 = λ z. IfOk r (λ _. a ≡ b ++ answer_text z) in subst P e h
