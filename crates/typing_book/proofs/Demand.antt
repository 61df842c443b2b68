-- Document 01, demand 3 on typing: a single claim about a whole list of push, extend, truncate and `token_count` calls. Assumes nothing.
use mathlib.Core.Path.{◌≡◌, refl, sym, ap, subst, ◌∙◌}
use mathlib.Core.List.{List, [], ◌∷◌}
use Prim.Native.Nat.{ℕ}
use native.Mathlib.Omega.{arith}
use lib.ListN.{length}
use Rattle.theory.specs.Dictionary.{Dictionary}
use Rattle.theory.specs.Typing.{Side, in_order}
use Rattle.theory.proofs.Sides.{in_order-nil, length-in_order}
use Rattle.built_tables.specs.Built.{dictionary_of, Built}
use Rattle.typing_book.specs.Book.{book_after, book_record}
use Rattle.typing_book.specs.Run.{Lent, Event, OctetCalls, Run, AsTheBook, AllAsTheBook}
use Rattle.typing_book.proofs.Texts.{record_is}
use Rattle.typing_book.proofs.Standing.{Standing}
use Rattle.typing_book.proofs.Turns.{Turned, turn}
use Rattle.tables.specs.Tables.{Tables}

module _ (T : Tables) (n : ℕ) (B : Built T n) (side : Side) where
  open T use {file}

  abbrev D : Dictionary
  D = dictionary_of file

  as_the_book : (size : ℕ) (s : List ℕ) (m : Lent) (e : Event) → Turned D side size s m e.call e.answer e.after
      → AsTheBook T side (in_order side s) size m e
  as_the_book size s m e t = record {
    answer = t.answer;
    len = t.standing.len ∙ same_length;
    size_kept = t.standing.size_is;
    records = λ i h. t.standing.records i (omega (arith, same_length))
        ∙ sym (record_is D side t.text i (omega (arith, same_length)))
        ∙ ap (λ (b : List ℕ). book_record D side b i) t.book;
    beyond = t.beyond;
  }
    where
      same_length : length t.text ≡ length (book_after side size (in_order side s) e.call)
      same_length = sym (length-in_order side t.text) ∙ ap length t.book

  all_as_the_book : (size : ℕ) (s : List ℕ) (m : Lent) → Standing D side size m s → (events : List Event) → OctetCalls events
      → Run T side m events → AllAsTheBook T side (in_order side s) size m events
  all_as_the_book size s m S [] o r = refl
  all_as_the_book size s m S (e ∷ es) o r =
      let t = turn T n B side size m s S e.answer e.after e.call o.0 r.0 in (
        as_the_book size s m e t,
        subst (λ (b : List ℕ). AllAsTheBook T side b size e.after es) t.book
            (all_as_the_book size t.text e.after t.standing es o.1 r.1),
      )

-- over the file and tables of one build that accepted the file, from length 0 over a slice of any size and content, a list of calls goes as the typing book says
pub the_typing_book : (T : Tables) (n : ℕ) → Built T n
    → (side : Side) → (m : Lent) → m.len ≡ 0 → (events : List Event) → OctetCalls events
    → Run T side m events → AllAsTheBook T side [] (length m.states) m events
the_typing_book T n B side m e events o r =
    subst (λ (b : List ℕ). AllAsTheBook T side b (length m.states) m events) (in_order-nil side)
    (all_as_the_book T n B side (length m.states) [] m start events o r)
  where
    start : Standing (dictionary_of T.file) side (length m.states) m []
    start = record { octets = tt; few = omega arith; fits = omega arith; len = e; size_is = refl; records = λ i h. absurd (omega arith) }
