use Rattle.std.proofs.Common.{◌≡◌, ◌+◌, ◌<◌, cond, length, is_some, ap, rules}
use Rattle.history.proofs.Placing.{count_after, put_there}
use Rattle.history.proofs.place.Goals as goal

pub offset_bounds-entries-unwrap_or : goal.offset_bounds-entries-unwrap_or
offset_bounds-entries-unwrap_or g c =
    let there = put_there c.args.entries.now c.args.count c.args.dated c.requires.held c.args.at c.requires.at c.requires.room in
    let within : c.unwrap_or.result < length c.args.entries.now = rw c.unwrap_or.ensures there.0 in
    search rules

pub bounds-entries-unwrap_or : goal.bounds-entries-unwrap_or
bounds-entries-unwrap_or g c =
    let there = put_there c.args.entries.now c.args.count c.args.dated c.requires.held c.args.at c.requires.at c.requires.room in
    rw c.unwrap_or.ensures there.0

pub returns : goal.returns
returns g c =
    let e = c.args.entries.now in
    let there = put_there e c.args.count c.args.dated c.requires.held c.args.at c.requires.at c.requires.room in
    let more : c.from.result ≡ cond (is_some c.args.at) 0 1 = search rules in
    record {
      count = count_after e c.args.count c.args.dated c.requires.held c.requires.at (ap (λ n. c.args.count + n) more);
      after = rw c.unwrap_or.ensures there.1;
    }
