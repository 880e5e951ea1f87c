use Rattle.std.proofs.Common.{get_or, refl, arith}
use Rattle.domain.specs.Checks.{no_reading}
use Rattle.seasontext.proofs.Loops.{copied_turn, copied_past}
use Rattle.seasontext.proofs.desk.copy_kwh.Goals as goal
use Rattle.seasontext.proofs.desk.copy_kwh.Goals.{then-slot-split, else-slot-split}

pub loop-slot-preserved : goal.loop-slot-preserved
loop-slot-preserved c =
    let rs = c.args.readings.now in
    let i = c.loop-slot.slot in
    let at = c.loop-slot.invariant in
    record {
      begun = omega arith;
      so_far = elim c.if-slot-split.branch [
        | then-slot-split w ↦ copied_turn rs c.args.first i w.kwh_at.result c.args.split.now c.loop-slot.split c.if-slot-split.split at.begun w.kwh_at.ensures at.so_far w.split-is
        | else-slot-split w ↦ copied_past rs c.args.first i (get_or rs i no_reading).kwh c.args.split.now c.loop-slot.split c.if-slot-split.split at.begun refl at.so_far (omega (arith, w.if-slot-split.false)) w.split-is
      ];
    }
