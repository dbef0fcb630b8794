use Rattle.worked.proofs.Cases.{published_words}
use Rattle.worked.proofs.published_words.Goals as goal

pub returns : goal.returns
returns c = published_words
