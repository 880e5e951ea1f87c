use Rattle.std.proofs.Common.{arith}
use Rattle.std.proofs.lemmas.Bool.Decides.{nat_tests}
use Rattle.domain.proofs.Within.{issued_within, admitted}
use Rattle.book.proofs.Book.volume.Goals as goal

pub bounds-issued-issued_slot : goal.bounds-issued-issued_slot
bounds-issued-issued_slot g c =
    let t = c.args.self.now.terms in
    let day = admitted _ _ c.in_ok-admit.ensures in
    let period = admitted _ _ c.in_ok-admit-2.ensures in
    let place = admitted _ _ c.in_ok-admit-3.ensures in
    let size = admitted _ _ c.in_ok-fit_issued.ensures in
    let within = issued_within t.places t.days c.args.day c.args.period c.args.place (grind (arith, nat_tests)) (grind (arith, nat_tests)) (grind (arith, nat_tests)) (grind (arith, nat_tests)) in
    grind (arith, nat_tests)
