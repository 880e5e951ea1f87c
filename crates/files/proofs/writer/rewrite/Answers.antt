use Rattle.std.proofs.Common.{◌≡◌, Ok, Result, sym, refl, ap, ◌∙◌}
use Rattle.domain.specs.declared.Fault.{Fault}
use Rattle.files.specs.Reads.{Told, told, told_schedule, told_readings, told_statement, read_of}
use Rattle.files.specs.declared.formats.Kind.TheVariants.{Schedule, Readings, Statement}
use Rattle.files.specs.Packs.{bytes_typed}
use Rattle.files.proofs.Agains.{again}
use Rattle.files.proofs.writer.rewrite.Goals as goal

pub returns-in-Schedule : goal.returns-in-Schedule
returns-in-Schedule c =
    let bs = c.args.file.now in
    let t = told_schedule c.in-Schedule.schedule in
    let e : ◌≡◌ {A = Result Told Fault} (Ok t) (read_of bs) = ap (λ f. Ok (told f)) (sym c.in-Schedule.is) ∙ c.in_ok-schedule.ensures in
    let answer = c.write_file.ensures in
    let same = again bs t Schedule c.args.out.now c.write_file.new.out c.write_file.result (bytes_typed bs c.type_inv.file) e refl answer.result answer.after in
    record { result = same.result; after = same.after; again = same.again }

pub returns-in-Readings : goal.returns-in-Readings
returns-in-Readings c =
    let bs = c.args.file.now in
    let t = told_readings c.in-Readings.readings in
    let e : ◌≡◌ {A = Result Told Fault} (Ok t) (read_of bs) = ap (λ f. Ok (told f)) (sym c.in-Readings.is) ∙ c.in_ok-schedule.ensures in
    let answer = c.write_file-in-Readings.ensures in
    let same = again bs t Readings c.args.out.now c.write_file-in-Readings.new.out c.write_file-in-Readings.result (bytes_typed bs c.type_inv.file) e refl answer.result answer.after in
    record { result = same.result; after = same.after; again = same.again }

pub returns-in-Statement : goal.returns-in-Statement
returns-in-Statement c =
    let bs = c.args.file.now in
    let t = told_statement c.in-Statement.statement in
    let e : ◌≡◌ {A = Result Told Fault} (Ok t) (read_of bs) = ap (λ f. Ok (told f)) (sym c.in-Statement.is) ∙ c.in_ok-schedule.ensures in
    let answer = c.write_file-in-Statement.ensures in
    let same = again bs t Statement c.args.out.now c.write_file-in-Statement.new.out c.write_file-in-Statement.result (bytes_typed bs c.type_inv.file) e refl answer.result answer.after in
    record { result = same.result; after = same.after; again = same.again }
