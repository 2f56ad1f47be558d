-- Turn after turn: the state, the memory and the bytes held are those of all that came so far, however it was cut.
-- Assumes nothing.
use mathlib.Core.Path.{◌≡◌, refl, ap, sym, ◌∙◌}
use mathlib.Core.Bool.{Bool, true, false, ◌&&◌, false≢true}
use mathlib.Core.List.{List, [], ◌∷◌, ◌++◌}
use Prim.Native.Nat.{ℕ, ◌+◌}
use native.Mathlib.Omega.{arith}
use lib.Dec.{ltb}
use lib.ListN.{length, length-append}
use Rattle.std.specs.Prelude.{Result, Ok, Err, is_ok}
use Rattle.octets.proofs.Choice.{both}
use Rattle.records.specs.Record.{rest_of}
use Rattle.records.proofs.Walks.{records_none, rest_none, rest-append}
use Rattle.transcript.specs.State.{start}
use Rattle.transcript.specs.Frame.{Ran}
use Rattle.transcript.specs.Taking.{behind_text, run, run_on}
use Rattle.transcript.specs.Last.{transcript_of}
use Rattle.transcript.proofs.Runs.{run_cut}
use Rattle.bench.specs.declared.Bench.{Bench}
use Rattle.bench.specs.declared.sending.Sent.{Sent}
use Rattle.bench.specs.declared.sending.Unsent.{Unsent}
use Rattle.bench.specs.Sending.{nothing_sent, Sends}
use Rattle.bench.specs.Reads.{came_in, goes_on}
use Rattle.bench.specs.Main.{held_of, Turns, Stays, Finishes, Runs}
use Rattle.bench.proofs.Sends.{sends_none, sends_both}

-- after so many turns, of which none failed
pub record Along (m₀ : List ℕ) (turns : ℕ) (b : Bench) : Type 0 where
  pub reads : List (List ℕ)
  pub state : b.state ≡ (run_on start m₀ (came_in reads)).state
  pub memory : b.memory ≡ (run_on start m₀ (came_in reads)).memory
  pub sent : Sends (Ok nothing_sent) (length (run_on start m₀ (came_in reads)).text) b.sent
  pub held : held_of b ≡ rest_of (came_in reads)
  pub passed : length reads ≡ turns

pub along_start : (b : Bench) → b.state ≡ start → b.held ≡ 0 → b.sent ≡ Ok nothing_sent → Along b.memory 0 b
unfolding came_in run
along_start b state held sent =
    let ran = ap (run start b.memory) records_none in
    record {
      reads = [];
      state = state ∙ sym (ap (λ (r : Ran). r.state) ran);
      memory = sym (ap (λ (r : Ran). r.memory) ran);
      sent = rw (ran, sent) (sends_none (Ok nothing_sent));
      held = rw held (sym rest_none);
      passed = refl;
    }

-- where no write has failed in the end, none had before
before : {x y : Result Sent Unsent} {n : ℕ} → Sends x n y → is_ok y ≡ true → is_ok x ≡ true
before {y = Ok later} p e = ap is_ok (p.whole later refl).1
before {y = Err unsent} p e = absurd (false≢true e)

module _ {m₀ : List ℕ} {n : ℕ} {b : Bench} (a : Along m₀ n b) where
  abbrev ran : Ran
  ran = run_on start m₀ (came_in a.reads)

  -- one turn more: what came stands behind all that came before
  pub along_turn : {goes : Bool} {next : Bench} → Turns b goes next → Along m₀ (n + 1) next
  unfolding came_in
  along_turn {goes} {next} t =
      let here : run_on b.state b.memory (held_of b ++ t.came)
      ≡ run_on ran.state ran.memory (rest_of (came_in a.reads) ++ t.came) =
      λ i. run_on (a.state i) (a.memory i) (a.held i ++ t.came) in
      let whole = run_cut start m₀ (came_in a.reads) t.came ∙ ap (behind_text ran.text) (sym here) in
      record {
        reads = t.came ∷ a.reads;
        state = t.state ∙ sym (ap (λ (r : Ran). r.state) whole);
        memory = t.memory ∙ sym (ap (λ (r : Ran). r.memory) whole);
        sent = rw (whole, length-append) (sends_both a.sent t.sent);
        held = t.rest
            ∙ ap (λ (l : List ℕ). rest_of (l ++ t.came)) a.held
            ∙ sym (rest-append (came_in a.reads) t.came);
        passed = omega (arith, a.passed);
      }

  -- a read failed: no last line
  pub run_failed : {next : Bench} → Stays b next → Runs m₀ true next
  run_failed {next} s =
      record {
        reads = a.reads;
        state = s.state ∙ a.state;
        memory = s.memory ∙ a.memory;
        sent = rw s.sent a.sent;
        line = λ (e : true ≡ false). absurd (false≢true (sym e));
        over = λ (e : false ≡ true). absurd (false≢true e);
      }

  -- and otherwise the last line
  pub run_finished : {next : Bench} → Finishes b next
      → ((is_ok b.sent && goes_on a.reads) ≡ true → length a.reads ≡ 18446744073709551615) → Runs m₀ false next
  unfolding transcript_of
  run_finished {next} f over =
      record {
        reads = a.reads;
        state = f.state ∙ a.state;
        memory = f.memory ∙ a.memory;
        sent = rw (length-append, ← a.state) (sends_both a.sent f.sent);
        line = λ (e : false ≡ false). rw f.state f.line;
        over = λ (e : ((true && is_ok next.sent) && goes_on a.reads) ≡ true).
            let h = both (is_ok next.sent) (goes_on a.reads) e in
            over (rw (before f.sent h.0, h.1));
      }

-- where a turn says that no more is to come, the input has ended or a write failed
pub run_stopped : {m₀ : List ℕ} {n : ℕ} {b : Bench} → Along m₀ n b → {goes : Bool} {last next : Bench}
    → Turns b goes last → goes ≡ false → Finishes last next → Runs m₀ false next
unfolding along_turn
run_stopped a {last = last} t stops f =
    run_finished (along_turn a t) f (λ (e : (is_ok last.sent && ltb 0 (length t.came)) ≡ true).
    absurd (false≢true (sym stops ∙ t.more ∙ e)))
