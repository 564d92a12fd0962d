use Rattle.std.proofs.Common.{arith}
use Rattle.ante_node.proofs.FirstLine.{char_within, hex_char, hex_odd, hex_never}
use Rattle.ante_node.proofs.lines.hex_failure.Goals as goal

pub bad_digit-requires : goal.bad_digit-requires
bad_digit-requires c =
    omega (arith, c.requires.within, char_within c.args.text.now c.args.fault c.in-InvalidHexCharacter.c c.in-InvalidHexCharacter.index c.in-InvalidHexCharacter.is c.requires.fault)

pub returns-in-InvalidHexCharacter : goal.returns-in-InvalidHexCharacter
returns-in-InvalidHexCharacter c =
    rw c.bad_digit.ensures
    (hex_char (record { at = c.args.at; text = c.args.text.now }) c.args.fault c.in-InvalidHexCharacter.c c.in-InvalidHexCharacter.index c.in-InvalidHexCharacter.is c.requires.fault)

pub returns-in-OddLength : goal.returns-in-OddLength
returns-in-OddLength c =
    rw c.bad_digit-in-OddLength.ensures (hex_odd (record { at = c.args.at; text = c.args.text.now }) c.args.fault c.in-OddLength.is c.requires.fault)

pub returns-in-InvalidStringLength : goal.returns-in-InvalidStringLength
returns-in-InvalidStringLength c = absurd (hex_never c.args.text.now c.args.fault c.in-InvalidStringLength.is c.requires.fault)
