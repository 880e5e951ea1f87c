use Rattle.std.proofs.Common.{◌≡◌, ◌+◌, ◌-◌, ◌^◌, false, [], ◌++◌, take, get_or, arith, rules}
use Rattle.std.specs.Fmt.{HasWritten, digits, padded_integral, format_spec}
use Rattle.std.proofs.Output.{has_written_append, has_written_of_eq}
use Rattle.std.proofs.lemmas.List.{take_more}
use Rattle.std.proofs.lemmas.Grind.{common_steps, flat_map-append}
use Rattle.text.specs.Hex.{hex_byte, hex}
use Rattle.std.proofs.lemmas.Fmt as std
use Rattle.text.proofs.hex.HexDisplay.fmt.Goals as goal

pub loop-byte-preserved : goal.loop-byte-preserved
loop-byte-preserved g c plain =
    let bs = c.args.self.now.0.now in
    let i = c.loop-byte.byte-index in
    let b = get_or bs i 0 in
    let w : HasWritten g.W.Write.write_str_gives c.loop-byte.f (padded_integral (format_spec 32 0 4 2 (2 ^ 64 - 1)) false [] (digits 16 false b)) c.write.new.self = search rules in
    let two : HasWritten g.W.Write.write_str_gives c.loop-byte.f (hex_byte b) c.write.new.self = has_written_of_eq _ _ _ _ _ (std.hex_byte false b (omega arith)) w in
    let more : hex (take i bs) ++ hex_byte b ≡ hex (take (i + 1) bs) = grind (arith, common_steps, take_more bs i 0 (omega arith), flat_map-append) in
    has_written_of_eq _ _ _ _ _ more (has_written_append _ _ _ _ _ _ (c.loop-byte.invariant plain) two)
