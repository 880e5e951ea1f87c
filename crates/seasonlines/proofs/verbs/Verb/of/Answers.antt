use Rattle.std.proofs.Common.{codes, arith, rules}
use Rattle.seasonlines.proofs.Spelled.{verb_spelled}
use Rattle.seasonlines.proofs.verbs.Verb.of.Goals as goal

pub returns-in-tables : goal.returns-in-tables
returns-in-tables c = verb_spelled (codes "tables") c.args.word.now (omega arith) (search rules)

pub returns-in-register : goal.returns-in-register
returns-in-register c = verb_spelled (codes "register") c.args.word.now (omega arith) (search rules)

pub returns-in-schedule : goal.returns-in-schedule
returns-in-schedule c = verb_spelled (codes "schedule") c.args.word.now (omega arith) (search rules)

pub returns-in-reading : goal.returns-in-reading
returns-in-reading c = verb_spelled (codes "reading") c.args.word.now (omega arith) (search rules)

pub returns-in-readings : goal.returns-in-readings
returns-in-readings c = verb_spelled (codes "readings") c.args.word.now (omega arith) (search rules)

pub returns-in-volume : goal.returns-in-volume
returns-in-volume c = verb_spelled (codes "volume") c.args.word.now (omega arith) (search rules)

pub returns-in-statement : goal.returns-in-statement
returns-in-statement c = verb_spelled (codes "statement") c.args.word.now (omega arith) (search rules)
