-- What a list of codes answers.
use Rattle.std.specs.Prelude.{ℕ, ◌≤◌, List, length, Result, IfOk, IfErr}
use Rattle.text_forms.specs.declared.code_list.WrongWord.{WrongWord}

-- a count that the array holds, or a place in the text
pub record CodesListed (text : List ℕ) (r : Result ℕ WrongWord) : Type 0 where
  pub most : IfOk r (λ count. count ≤ 4097)
  pub place : IfErr r (λ wrong. wrong.at ≤ length text)
