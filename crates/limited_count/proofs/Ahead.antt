-- 64 places ahead, and text left behind them. Assumes nothing.
use mathlib.Core.Path.{ap}
use mathlib.Core.List.{List}
use mathlib.Core.Bool.{Bool}
use Prim.Native.Nat.{ℕ, ◌+◌, ◌*◌, ◌≤◌, ◌<◌}
use native.Mathlib.Omega.{arith}
use lib.ListN.{length, get_or, take}
use lib.Seq.{take-take, length-take-le}
use Rattle.theory.specs.Merge.{encode}
use Rattle.theory.proofs.Over.{all_of_last}
use Rattle.tables.specs.Tables.{PairTables, with_prefixes}
use Rattle.built_tables.specs.Built.{dictionary_of}
use Rattle.built_tables.proofs.Rows.{octets, lawful-is, known, count_is, bytes_are}
use Rattle.built_tables.proofs.InForm.{ready}
use Rattle.backtrack_encoder.specs.declared.BacktrackEncoder.{BacktrackEncoder}
use Rattle.limited_count.specs.Stops.{ManyReady, ManyIs, AheadReady, OverIs}

module _ (P : PairTables) (n : ℕ) (text : List ℕ) where
  module _ (e : BacktrackEncoder) (limit : ℕ) (R : AheadReady P n text e limit) (h : 8 * (e.pos + 64) ≤ length text) where
    pub many-ready : ManyReady P n (take (e.pos + 64) text)
    many-ready = record { is_in_form = R.is_in_form; few = omega (arith, R.short, length-take-le (e.pos + 64) text (omega arith)) }

    pub many-over : ((i : ℕ) → get_or text i 0 < 256) → (r : Bool) → ManyIs P n (take (e.pos + 64) text) limit r → OverIs P n text limit r
    many-over bytes r M = record {
      over = λ y prefixes B.
          let T = with_prefixes P prefixes in
          let m = M.many y prefixes B in
          let end : ℕ = e.pos + 64 in
          let size = length-take-le end text (omega arith) in
          all_of_last (dictionary_of P.file) (lawful-is T n B) text (known T n B text (octets text bytes)) 64 m.at limit
          (λ c l.
          let c' : c < n = omega (arith, count_is T n B) in
          omega (arith, ap length (bytes_are T n B c c'), (ready T n B).places_ready.short c c'))
          (omega (arith, m.inside, size))
          (λ q l l'.
          let i = m.inside in
          omega (arith, m.codes q l l', ap (λ (t : List ℕ). length (encode (dictionary_of P.file) t)) (take-take q end text (omega arith))));
    }
