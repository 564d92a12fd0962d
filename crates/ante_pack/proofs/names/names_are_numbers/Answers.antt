use Rattle.ante_pack.proofs.NameReading.{reads_back}
use Rattle.ante_pack.proofs.NameTexts.{some_text, one_text, fits_word}
use Rattle.ante_pack.proofs.names.names_are_numbers.Goals as goal

pub returns : goal.returns
returns c = record { some = some_text; one = one_text; fits = fits_word; back = reads_back }
