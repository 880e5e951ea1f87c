-- The law at the start, through the other calls, and at the end of every run.
use Rattle.std.proofs.Common.{◌≡◌, Bool, true, false, List, [], ◌∷◌, sym, refl, ap, ◌∙◌, arith}
use Rattle.std.proofs.lemmas.Int.{ints}
use Rattle.domain.specs.declared.terms.Terms.{Terms}
use Rattle.rules.specs.Meaning.{Meaning, Laws}
use Rattle.season.specs.declared.Call.{Call}
use Rattle.season.specs.declared.Call.TheVariants.{Register, Schedule, Reading, End, Issue}
use Rattle.season.specs.Plain.{Plain, nothing_yet, after, plain_step, plain_run}
use Rattle.season.specs.Law.{sum_of, of_period, of_place, kwh_of, share_for, Adds}
use Rattle.season.specs.Sound.{AllSound}
use Rattle.season.specs.Granted.{Granted, AllGranted, LinesAddUp}
use Rattle.season.proofs.Splits.{sound_writes}
use Rattle.season.proofs.Issues.{adds_from, law_issue}

-- the law, with what the next issue needs
abbrev pub Kept : Terms → Plain → Type 0
Kept t b = Adds b b.lines × AllSound t b

-- nothing was written down yet
pub sound_start : (t : Terms) → AllSound t nothing_yet
sound_start t day period w e = absurd cc

-- and no line was sent
pub law_start : Adds nothing_yet []
unfolding sum_of
law_start = record {
  meter = λ d p. refl;
  place = λ d p q x. refl;
  negative = λ d p q x l. omega (arith, ints);
}

-- a call that writes nothing down and sends no line keeps the law
pub law_other : (t : Terms) (b c : Plain) → c.written ≡ b.written → c.lines ≡ b.lines → Kept t b → Kept t c
law_other t b c w l (adds, sound) =
    let still : AllSound t c = λ d p v e. sound d p v (sym (ap (λ f. f d p) w) ∙ e) in (
      adds_from t c c.lines still
          (λ d p. ap (sum_of (of_period d p)) l ∙ adds.meter d p ∙ ap (λ f. kwh_of (f d p)) (sym w))
          (λ d p q x. ap (sum_of (of_place d p q x)) l ∙ adds.place d p q x ∙ ap (λ f. share_for (f d p) q x) (sym w)),
      still,
    )

module _ (t : Terms) (m : Meaning) (laws : Laws m) where
  -- an accepted call keeps the law
  pub law_after : (b : Plain) (call : Call) → Granted t m b call true → Kept t b → Kept t (after t m b call)
  law_after b (Register place day supplier) g h = law_other t b (after t m b (Register place day supplier)) refl refl h
  law_after b (Schedule sender day moment rows) g h = law_other t b (after t m b (Schedule sender day moment rows)) refl refl h
  law_after b (Reading day period quality kwh) g h = law_other t b (after t m b (Reading day period quality kwh)) refl refl h
  law_after b (End sender day moment) g h = law_other t b (after t m b (End sender day moment)) refl refl h
  law_after b (Issue day run) g (adds, sound) =
      law_issue t m b day run adds sound
      (λ period h. let r = g refl period h in sound_writes t m laws b day period h r.counted r.lawful r.held)

  -- a refused one changes nothing
  pub law_step : (b : Plain) (call : Call) (accepted : Bool) → Granted t m b call accepted → Kept t b → Kept t (plain_step t m b call accepted)
  law_step b call true g h = law_after b call g h
  law_step b call false g h = h

  -- and so do some calls
  pub law_run : (b : Plain) (calls : List (Call × Bool)) → AllGranted t m b calls → Kept t b → Kept t (plain_run t m b calls)
  law_run b [] g h = h
  law_run b (step ∷ steps) g h = law_run (plain_step t m b step.0 step.1) steps g.1 (law_step b step.0 step.1 g.0 h)

pub lines_add_up : LinesAddUp
lines_add_up t m laws calls g = (law_run t m laws nothing_yet calls g (law_start, sound_start t)).0
