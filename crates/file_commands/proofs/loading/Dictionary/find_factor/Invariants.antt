-- The file stays as it is.
use Rattle.file_commands.specs.Loading.{Kept}
use Rattle.file_commands.proofs.loading.Dictionary.find_factor.Given as goal

abbrev pub invariant-loop-factor : goal.invariant-loop-factor
invariant-loop-factor l = Kept l.initial.self l.self
