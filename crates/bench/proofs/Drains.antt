-- A drain, chunk by chunk: what is still to do from the place reached ends as the whole does from the front.
-- Assumes nothing.
use mathlib.Core.Path.{◌≡◌, refl, ap, sym, subst, ◌∙◌}
use mathlib.Core.List.{List, []}
use Prim.Native.Nat.{ℕ, ◌+◌, ◌-◌, ◌≤◌, ◌<◌}
use native.Mathlib.Nat.{zero-add}
use native.Mathlib.Omega.{arith}
use lib.ListN.{length, take, drop, length-append, length-drop}
use lib.Seq.{drop-drop, take_all}
use Rattle.std.specs.Prelude.{Result}
use Rattle.records.specs.Record.{joined, records_of, rest_of}
use Rattle.records.proofs.Walks.{records_split}
use Rattle.transcript.specs.declared.taking.Taken.{Taken}
use Rattle.transcript.specs.Frame.{Ran}
use Rattle.transcript.specs.Taking.{run, run_on}
use Rattle.transcript.proofs.Along.{Chunks}
use Rattle.transcript.proofs.Chunks.{Chunked, chunked}
use Rattle.bench.specs.declared.Bench.{Bench}
use Rattle.bench.specs.declared.sending.Sent.{Sent}
use Rattle.bench.specs.declared.sending.Unsent.{Unsent}
use Rattle.bench.specs.Sending.{Sends}
use Rattle.bench.specs.Main.{Takes, Drains}
use Rattle.bench.proofs.Sends.{sends_none, sends_both}

-- one chunk, as the call of it answers on the bytes from a place on
module _ (b : Bench) (bytes : List ℕ) (from : ℕ) {t : Taken} {after written : List ℕ}
    (inside : from ≤ length bytes) (room : 86 ≤ length b.output)
    (e : Chunks b.state b.memory (take (length bytes - from) (drop from bytes)) b.output t after written) where
  all : take (length bytes - from) (drop from bytes) ≡ drop from bytes
  all = take_all (length bytes - from) (drop from bytes) (rw length-drop (omega arith))

  one : Chunked b.state b.memory (drop from bytes) b.output t after written
  one =
      chunked b.state b.memory (drop from bytes) b.output room (rw all at e)

  pub chunk_fits : t.written ≤ length b.output
  chunk_fits = one.fits

  pub chunk_takes : {next : Bench} → next.state ≡ t.state → next.memory ≡ after → next.input ≡ b.input
      → next.held ≡ b.held → Sends b.sent (length (take t.written written)) next.sent
      → length (rest_of (take (length bytes - from) (drop from bytes))) < 256 → Takes b (drop from bytes) t.read next
  chunk_takes state memory input held sent short =
      record {
        text = one.text;
        runs = rw (state, memory) one.runs;
        reads = one.reads;
        inside = one.inside;
        short = rw all at short;
        stops = one.stops;
        sent = rw one.front at sent;
        input = input;
        held = held;
      }

pub record Going (b : Bench) (bytes : List ℕ) (c : Bench) (at : ℕ) : Type 0 where
  pub within : at ≤ length bytes
  pub state : (run_on c.state c.memory (drop at bytes)).state ≡ (run_on b.state b.memory bytes).state
  pub memory : (run_on c.state c.memory (drop at bytes)).memory ≡ (run_on b.state b.memory bytes).memory
  pub reads : at + length (joined (records_of (drop at bytes))) ≡ length (joined (records_of bytes))
  pub sends : (later : Result Sent Unsent)
      → Sends c.sent (length (run_on c.state c.memory (drop at bytes)).text) later
      → Sends b.sent (length (run_on b.state b.memory bytes).text) later
  pub input : c.input ≡ b.input
  pub held : c.held ≡ b.held

pub going_start : (b : Bench) (bytes : List ℕ) → Going b bytes b 0
going_start b bytes =
    record {
      within = omega arith;
      state = refl;
      memory = refl;
      reads = zero-add (length (joined (records_of bytes)));
      sends = λ (later : Result Sent Unsent) (p : Sends b.sent (length (run_on b.state b.memory bytes).text) later). p;
      input = refl;
      held = refl;
    }

-- a chunk of what is left
module _ {b : Bench} (end : ℕ) {c : Bench} {at : ℕ} (g : Going b (take end b.input) c at)
    {count : ℕ} {next : Bench} (chunk : Takes c (drop at (take end c.input)) count next) where
  abbrev bytes : List ℕ
  bytes = take end b.input

  t : Takes c (drop at bytes) count next
  t = subst (λ (l : List ℕ). Takes c (drop at (take end l)) count next) g.input chunk

  onward : drop count (drop at bytes) ≡ drop (at + count) bytes
  onward = drop-drop count at bytes

  pub going_on : Going b bytes next (at + count)
  going_on =
      let runs = rw onward at t.runs in record {
        within = omega (arith, t.inside, length-drop at bytes, g.within);
        state = sym (ap (λ (r : Ran). r.state) runs) ∙ g.state;
        memory = sym (ap (λ (r : Ran). r.memory) runs) ∙ g.memory;
        reads = omega (arith, rw onward at t.reads, g.reads);
        sends = λ (later : Result Sent Unsent)
            (q : Sends next.sent (length (run_on next.state next.memory (drop (at + count) bytes)).text) later).
            g.sends later (rw (runs, length-append) (sends_both t.sent q));
        input = t.input ∙ g.input;
        held = t.held ∙ g.held;
      }

  -- as many bytes stand behind the records
  rests : length (rest_of bytes) ≡ length (rest_of (drop at bytes))
  rests =
      let all = ap length (records_split bytes) in
      let left = ap length (records_split (drop at bytes)) in
      omega (
        arith,
        g.reads,
        g.within,
        length-drop at bytes,
        simp length-append at all,
        simp length-append at left,
      )

  -- one that takes nothing is the last
  pub going_out : count ≡ 0 → Drains b bytes (at + count) next
  unfolding run joined
  going_out none =
      let same : at + count ≡ at = omega arith in
      let last : records_of (drop (at + count) bytes) ≡ [] =
      ap (λ (n : ℕ). records_of (drop n bytes)) same ∙ t.stops none in
      let ran = ap (run next.state next.memory) last in record {
        state = sym (ap (λ (r : Ran). r.state) ran) ∙ going_on.state;
        memory = sym (ap (λ (r : Ran). r.memory) ran) ∙ going_on.memory;
        read = omega (arith, going_on.reads, ap (λ (l : List (List ℕ)). length (joined l)) last);
        short = rw rests t.short;
        sent = going_on.sends next.sent (rw ran (sends_none next.sent));
        input = going_on.input;
        held = going_on.held;
      }
