use Rattle.std.proofs.Common.{Ok, Err, rules, arith}
use Rattle.book.specs.Kept.{kept}
use Rattle.book.proofs.Sendings.{came, room_left}
use Rattle.book.proofs.Book.issue.Goals as goal

pub returns-in_err-sent-clause-answer : goal.returns-in_err-sent-clause-answer
returns-in_err-sent-clause-answer g c =
    let e = c.issue.ensures in
    let refused = (came (g.R.Rule.meaning c.args.self.now.rule) c.args.self.now.terms (kept c.args.self.now) c.args.holders.now c.args.rows.now c.args.readings.now c.args.issued.now c.args.journal.now c.args.day c.args.run c.standing.result c.standing.ensures c.issue.result e.answer (Err c.in_err-sent.field-0.0) c.issue.new.issued c.issue.new.journal c.in_err-sent.was e.issued e.journal).answer in
    search rules

pub overflow_add-self : goal.overflow_add-self
overflow_add-self g c =
    let room = room_left (g.R.Rule.meaning c.args.self.now.rule) c.args.self.now.terms (kept c.args.self.now) c.args.holders.now c.args.rows.now c.args.readings.now c.args.issued.now c.args.journal.now c.args.day c.args.run c.standing.result c.standing.ensures c.issue.result c.issue.ensures.answer c.in_ok-sent.sent c.in_ok-sent.was in
    grind arith

pub returns : goal.returns
returns g c =
    let e = c.issue.ensures in
    let sent = came (g.R.Rule.meaning c.args.self.now.rule) c.args.self.now.terms (kept c.args.self.now) c.args.holders.now c.args.rows.now c.args.readings.now c.args.issued.now c.args.journal.now c.args.day c.args.run c.standing.result c.standing.ensures c.issue.result e.answer (Ok c.in_ok-sent.sent) c.issue.new.issued c.issue.new.journal c.in_ok-sent.was e.issued e.journal in
    record { answer = sent.answer; issued = sent.slots; journal = sent.lines; keeps = search rules; same = search rules }
