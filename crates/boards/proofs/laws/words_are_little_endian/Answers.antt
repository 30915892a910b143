use Rattle.boards.proofs.ByteWords.{reads}
use Rattle.boards.proofs.laws.words_are_little_endian.Goals as goal

pub returns : goal.returns
returns c = reads
