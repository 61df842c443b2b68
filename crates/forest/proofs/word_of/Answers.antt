-- By the definition of the word. Assumes nothing.
use borrow.Author.Rules.{rules}
use Rattle.forest.specs.Words.{word}
use Rattle.forest.proofs.word_of.Goals as goal

pub returns : goal.returns
unfolding word
returns c = search rules
