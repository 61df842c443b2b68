-- What loading a phrase file answers.
use Rattle.std.specs.Prelude.{◌≡◌, ◌≤◌, Result, OnOk}
use Rattle.file_commands.specs.declared.loading.Dictionary.{Dictionary}

-- a file that was loaded has at most 65,536 bytes
abbrev pub Loads : {T E : Type 0} → Result T E → Dictionary → Type 0
Loads r d = OnOk r (d.size ≤ 65536)

-- the file stays as it is
pub record Kept (d d' : Dictionary) : Type 0 where
  pub bytes : d'.bytes ≡ d.bytes
  pub size : d'.size ≡ d.size
