-- Lines: how long they are, one piece laid after the other, and a line put or not.
-- Assumes nothing.
use mathlib.Core.Path.{◌≡◌, refl, ap, sym, ◌∙◌}
use mathlib.Core.Bool.{Bool, true, false}
use mathlib.Core.List.{List, ◌++◌, append_assoc}
use mathlib.Core.Logic.{by_cases}
use Prim.Native.Nat.{ℕ, ◌+◌, ◌≤◌, ◌<◌}
use native.Mathlib.Decide.{dec_lt}
use native.Mathlib.Omega.{arith}
use borrow.Author.Tests.{le-leb, lt-leb}
use lib.ListN.{length, take, drop, length-append}
use lib.Seq.{take_at, length-take-le}
use Rattle.octets.specs.Bytes.{laid}
use Rattle.octets.proofs.Laid.{laid-append, laid_fits}
use Rattle.records.specs.Decimal.{decimal}
use Rattle.records.specs.declared.line.Line.{Line}
use Rattle.records.specs.declared.line.Line.TheVariants.{Done, Held, Refused}
use Rattle.records.specs.Line.{done_slot, length_word, held_slot, bytes_word, refused_word, arrivals_word, packets_word}
use Rattle.records.specs.Line.{named, ending, pair, line_bytes, last_line, put, place_after, Placed}
use Rattle.records.proofs.Decimals.{decimal_most}

-- the sizes of the pieces
pub named_size : (word : List ℕ) (n : ℕ) → length (named word n) ≡ length word + length (decimal n)
unfolding named
named_size word n = length-append word (decimal n)

pub pair_size : (first : List ℕ) (a : ℕ) (second : List ℕ) (b : ℕ) (again : Bool)
    → length (pair first a second b again)
    ≡ length first + length second + (length (decimal a) + (length (decimal b) + length (ending again)))
unfolding pair
pair_size first a second b again =
    rw (
      length-append (named first a) (named second b ++ ending again),
      length-append (named second b) (ending again),
      named_size first a,
      named_size second b,
    ) (omega arith)

line_size : (n : ℕ) (first : List ℕ) (a : ℕ) (second : List ℕ) (b : ℕ) (again : Bool)
    → length (decimal n ++ pair first a second b again)
    ≡ length (decimal n) + (length first + length second +
    (length (decimal a) + (length (decimal b) + length (ending again))))
line_size n first a second b again =
    length-append (decimal n) (pair first a second b again)
    ∙ ap (λ (k : ℕ). length (decimal n) + k) (pair_size first a second b again)

pub done_size : (n slot size : ℕ) (again : Bool)
    → length (line_bytes n (Done slot size again))
    ≡ length (decimal n) + (19 + (length (decimal slot) + (length (decimal size) + length (ending again))))
unfolding line_bytes
done_size n slot size again = line_size n done_slot slot length_word size again

pub held_size : (n slot bytes : ℕ) (again : Bool)
    → length (line_bytes n (Held slot bytes again))
    ≡ length (decimal n) + (18 + (length (decimal slot) + (length (decimal bytes) + length (ending again))))
unfolding line_bytes
held_size n slot bytes again = line_size n held_slot slot bytes_word bytes again

pub last_size : (arrivals packets : ℕ)
    → length (last_line arrivals packets) ≡ 18 + (length (decimal arrivals) + (length (decimal packets) + 1))
unfolding last_line
last_size arrivals packets = pair_size arrivals_word arrivals packets_word packets false

pub refused_size : (n number : ℕ)
    → length (line_bytes n (Refused number)) ≡ length (decimal n) + (10 + length (decimal number))
unfolding line_bytes
refused_size n number =
    rw (
      length-append (decimal n) (named refused_word number ++ ending false),
      length-append (named refused_word number) (ending false),
      named_size refused_word number,
    ) (omega arith)

-- no line is longer than `LINE_ROOM`
ending_most : (again : Bool) → length (ending again) ≤ 7
ending_most true = omega arith
ending_most false = omega arith

pub line_most : (n : ℕ) (line : Line) → length (line_bytes n line) ≤ 86
line_most n (Done slot size again) =
    omega (arith, done_size n slot size again, decimal_most n, decimal_most slot, decimal_most size, ending_most again)
line_most n (Held slot bytes again) =
    omega (
      arith,
      held_size n slot bytes again,
      decimal_most n,
      decimal_most slot,
      decimal_most bytes,
      ending_most again,
    )
line_most n (Refused number) = omega (arith, refused_size n number, decimal_most n, decimal_most number)

pub last_line_most : (arrivals packets : ℕ) → length (last_line arrivals packets) ≤ 86
last_line_most arrivals packets = omega (arith, last_size arrivals packets, decimal_most arrivals, decimal_most packets)

-- one piece laid after the other
pub Placed-append : {l m o : List ℕ} {at p q : ℕ} (a b : List ℕ) → Placed l at a p m → Placed m p b q o
    → Placed l at (a ++ b) q o
Placed-append {l} {m} {o} {at} {p} {q} a b x y =
    record {
      place = omega (arith, x.place, y.place, length-append a b);
      stored = y.stored ∙ cc (x.stored, x.place) ∙ sym (laid-append l at a b);
    }

-- a line is put where it fits, and the place after it told; where it does not, the output and the place stay
module _ (out : List ℕ) (at : ℕ) (line : List ℕ) where
  module _ (h : at + length line ≤ length out) where
    pub put_is : put out at line ≡ laid out at line
    unfolding put
    put_is = rw (le-leb (at + length line) (length out) h)

    pub after_is : place_after out at line ≡ at + length line
    unfolding place_after
    after_is = rw (le-leb (at + length line) (length out) h)

    pub put_placed : {r : ℕ} {left : List ℕ} → Placed out at line r left
        → (r ≡ place_after out at line) × (left ≡ put out at line)
    put_placed p = (p.place ∙ sym after_is, p.stored ∙ sym put_is)

    -- up to the new place stand the bytes that stood before the old one, and then the line
    pub put_front : take (place_after out at line) (put out at line) ≡ take at out ++ line
    put_front =
        rw (after_is, put_is, laid_fits out at line h, ← append_assoc (take at out) line (drop (at + length line) out))
        (take_at (take at out ++ line) (drop (at + length line) out) (at + length line)
        (length-append (take at out) line ∙ ap (λ (k : ℕ). k + length line) (length-take-le at out (omega arith))))

  pub put_no_room : length out < at + length line → (at ≡ place_after out at line) × (out ≡ put out at line)
  unfolding put place_after
  put_no_room h = rw (lt-leb (at + length line) (length out) h) (refl, refl)

  -- the place tells which: of a line, which has a byte at least
  pub stays_no_room : 1 ≤ length line → place_after out at line ≡ at → length out < at + length line
  stays_no_room some e =
      by_cases (dec_lt (length out) (at + length line))
      (λ (h : length out < at + length line). h)
      (λ (h : length out < at + length line → ⊥). absurd (omega (arith, after_is (omega arith))))

-- each line has its line feed at least
pub line_some : (n : ℕ) (line : Line) → 1 ≤ length (line_bytes n line)
line_some n (Done slot size again) = omega (arith, done_size n slot size again)
line_some n (Held slot bytes again) = omega (arith, held_size n slot bytes again)
line_some n (Refused number) = omega (arith, refused_size n number)

pub last_line_some : (arrivals packets : ℕ) → 1 ≤ length (last_line arrivals packets)
last_line_some arrivals packets = omega (arith, last_size arrivals packets)
