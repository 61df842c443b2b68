-- The live place after a place and the one before it, from what the bit set answers. Assumes nothing.
use mathlib.Core.Path.{◌≡◌}
use mathlib.Core.Bool.{Bool}
use Rattle.std.specs.Prelude.{Option, None, Some, unwrap_or}
use Prim.Native.Nat.{ℕ, ◌+◌, ◌-◌, ◌≤◌, ◌<◌}
use native.Mathlib.Omega.{arith}
use Rattle.bitfield.specs.Bits.{successor, predecessor}
use Rattle.bitfield.proofs.Search.{successor-is, predecessor-is}
use Rattle.merge_encoder.specs.Live.{NextLive, LastLive, LastIs}

module _ (bits : ℕ → Bool) (at end : ℕ) (h : (at < end) × (end ≤ 4096)) where
  pub next-at : (q : ℕ) → Some q ≡ successor bits (at + 1) → q < end → NextLive bits at end q
  next-at q e l =
      let A = successor-is bits (at + 1) (Some q) e in
      record {
        after = omega (arith, A.inside.0);
        most = omega arith;
        clear = λ i a b. A.clear i (omega arith, omega (arith, h.1)) b;
        here = λ _. A.here;
      }

  pub next-beyond : (q : ℕ) → Some q ≡ successor bits (at + 1) → end ≤ q → NextLive bits at end end
  next-beyond q e l =
      let A = successor-is bits (at + 1) (Some q) e in
      record {
        after = h.0;
        most = omega arith;
        clear = λ i a b. A.clear i (omega arith, omega (arith, h.1)) (omega arith);
        here = λ z. absurd (omega arith);
      }

  pub next-nothing : None ≡ successor bits (at + 1) → NextLive bits at end end
  next-nothing e =
      record {
        after = h.0;
        most = omega arith;
        clear = λ i a b. successor-is bits (at + 1) None e i (omega arith, omega (arith, h.1));
        here = λ z. absurd (omega arith);
      }

module _ (bits : ℕ → Bool) (at : ℕ) where
  pub last-is : (o : Option ℕ) → 1 ≤ at → o ≡ predecessor bits (at - 1) → LastIs bits at o
  last-is None h e = record {
    most = omega arith;
    clear = λ i a b. predecessor-is bits (at - 1) None e i (omega arith);
    here = λ z. absurd (omega arith);
  }
  last-is (Some q) h e =
      let A = predecessor-is bits (at - 1) (Some q) e in
      let i : q < at = omega (arith, A.inside) in
      (i, record { most = omega arith; clear = λ j a b. A.clear j (omega arith) (b i); here = λ _. A.here })

pub last-live : (bits : ℕ → Bool) (at : ℕ) (o : Option ℕ) → LastIs bits at o → LastLive bits at (unwrap_or o at)
last-live bits at None L = L
last-live bits at (Some r) L = L.1
