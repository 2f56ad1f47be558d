-- One turn: what came stands behind the bytes held, and the rest of both is held.
-- Assumes nothing.
use mathlib.Core.Path.{◌≡◌, ap, sym, ◌∙◌}
use mathlib.Core.Bool.{Bool, ◌&&◌}
use mathlib.Core.List.{List, ◌++◌}
use Prim.Native.Nat.{ℕ, ◌+◌, ◌≤◌, ◌<◌}
use native.Mathlib.Omega.{arith}
use lib.Dec.{ltb}
use lib.ListN.{length, take, drop, length-append, length-drop, take-append-drop}
use lib.Seq.{length-take-le, take-take}
use Rattle.std.specs.Prelude.{is_ok}
use Rattle.records.specs.Record.{joined, records_of, rest_of}
use Rattle.records.proofs.Walks.{records_split, rest_behind}
use Rattle.transcript.specs.Frame.{Ran}
use Rattle.transcript.specs.Taking.{run_on}
use Rattle.transcript.specs.Front.{between, moved_of}
use Rattle.transcript.proofs.Fronts.{between_is, moved_front}
use Rattle.bench.specs.declared.Bench.{Bench}
use Rattle.bench.specs.Main.{held_of, Stays, Drains, Turns}

-- with what `fill` and `drain` promise
module _ (b f d : Bench) (came read : ℕ) (stays : Stays b f) (within : f.held + came ≤ length f.input)
    (drains : Drains f (take (f.held + came) f.input) read d) where
  -- all that is there, and what of it came
  abbrev all : List ℕ
  all = take (f.held + came) f.input

  abbrev bytes : List ℕ
  bytes = drop f.held all

  sized : length all ≡ f.held + came
  sized = length-take-le (f.held + came) f.input within

  parted : all ≡ held_of b ++ bytes
  parted =
      sym (take-append-drop f.held all)
      ∙ ap (λ (l : List ℕ). l ++ bytes) (take-take f.held (f.held + came) f.input (omega arith) ∙ stays.bytes)

  came_size : length bytes ≡ came
  came_size = rw (length-drop, sized) (omega arith)

  -- the records stand within what is there
  taken : read ≤ f.held + came
  taken =
      omega (
        arith,
        drains.read,
        sized,
        ap length (records_split all),
        length-append (joined (records_of all)) (rest_of all),
      )

  -- what is moved to the front is the rest
  moved : between d.input read (f.held + came) ≡ rest_of all
  moved =
      ap (λ (l : List ℕ). between l read (f.held + came)) drains.input
      ∙ between_is f.input read (f.held + came) taken (omega (arith, taken, within))
      ∙ ap (λ (n : ℕ). drop n all) drains.read
      ∙ rest_behind all

  module _ {rest : ℕ} (e : rest ≡ length (between d.input read (f.held + came))) where
    pub turned_few : rest < 256
    turned_few = omega (arith, e, ap length moved, drains.short)

    pub turned : {next : Bench} → next.state ≡ d.state → next.memory ≡ d.memory → next.sent ≡ d.sent
        → next.held ≡ rest → next.input ≡ moved_of d.input read (f.held + came)
        → {fine : Bool} → fine ≡ is_ok d.sent → Turns b (fine && ltb 0 came) next
    turned {next} state memory sent held input {fine} ok =
        let ran : run_on f.state f.memory all ≡ run_on b.state b.memory (held_of b ++ bytes) =
        λ i. run_on (stays.state i) (stays.memory i) (parted i) in
        record {
          came = bytes;
          state = state ∙ drains.state ∙ ap (λ (r : Ran). r.state) ran;
          memory = memory ∙ drains.memory ∙ ap (λ (r : Ran). r.memory) ran;
          sent = rw (← ran, ← stays.sent, sent) drains.sent;
          rest =
              (λ i. take (held i) (input i))
              ∙ ap (λ (n : ℕ). take n (moved_of d.input read (f.held + came))) e
              ∙ moved_front d.input read (f.held + came)
              ∙ moved
              ∙ ap rest_of parted;
          more = rw (ok, sent, came_size);
        }
