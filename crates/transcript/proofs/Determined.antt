-- The contracts leave no choice: two results that one allows on the same bytes are equal, and so is every lent byte at
-- exit.
-- Assumes nothing.
use mathlib.Core.Path.{◌≡◌}
use contract.Lifetimes.{Lfts}
use Prim.Native.Nat.{ℕ}
use Rattle.octets.proofs.Choice.{determined}
use Rattle.transcript.specs.declared.state.State.{State}
use Rattle.transcript.specs.declared.frame.Framed.{Framed}
use Rattle.transcript.specs.declared.taking.Taken.{Taken}
use Rattle.transcript.proofs.state.set_up.Reads as set_up
use Rattle.transcript.proofs.frame.frame_line.Reads as frame-line
use Rattle.transcript.proofs.taking.chunk.Reads as chunk
use Rattle.transcript.proofs.front.to_front.Reads as to_front
use Rattle.transcript.proofs.last.last_line.Reads as last_Line

pub set_up_determined : (κs : Lfts 0) (a : _) (r q : State) (e f : _) → set_up.Post κs a r e → set_up.Post κs a q f
    → r ≡ q
set_up_determined κs a r q e f p o = determined p o

pub frame_line_determined : (κs : Lfts 3) (a : _) (r q : Framed) (e f : _) → frame-line.Post κs a r e
    → frame-line.Post κs a q f
    → (r ≡ q) × (e.1.0.now ≡ f.1.0.now) × (e.1.1.1.0.now ≡ f.1.1.1.0.now)
frame_line_determined κs a r q e f p o =
    let state = determined p.0 o.0 in
    let behind = determined p.1.1.0 o.1.1.0 in (
      λ i. record { state = state i; behind = behind i },
      determined p.1.0 o.1.0,
      determined p.1.1.1 o.1.1.1,
    )

pub chunk_determined : (κs : Lfts 3) (a : _) (r q : Taken) (e f : _) → chunk.Post κs a r e → chunk.Post κs a q f
    → (r ≡ q) × (e.1.0.now ≡ f.1.0.now) × (e.1.1.1.0.now ≡ f.1.1.1.0.now)
chunk_determined κs a r q e f p o =
    let state = determined p.0 o.0 in
    let read = determined p.1.1.0 o.1.1.0 in
    let written = determined p.1.1.1.0 o.1.1.1.0 in (
      λ i. record { state = state i; read = read i; written = written i },
      determined p.1.0 o.1.0,
      determined p.1.1.1.1.0 o.1.1.1.1.0,
    )

pub to_front_determined : (κs : Lfts 1) (a : _) (r q : ℕ) (e f : _) → to_front.Post κs a r e → to_front.Post κs a q f
    → (r ≡ q) × (e.0.now ≡ f.0.now)
to_front_determined κs a r q e f p o = (determined p.0 o.0, determined p.1 o.1)

pub last_line_determined : (κs : Lfts 1) (a : _) (r q : ℕ) (e f : _) → last_Line.Post κs a r e → last_Line.Post κs a q f
    → (r ≡ q) × (e.1.0.now ≡ f.1.0.now)
last_line_determined κs a r q e f p o = (determined p.0 o.0, determined p.1 o.1)

-- No call asks anything of its arguments first.
pub no_requires : ((κs : Lfts 0) (a : _) → set_up.Pre κs a)
    × ((κs : Lfts 3) (a : _) → frame-line.Pre κs a)
    × ((κs : Lfts 3) (a : _) → chunk.Pre κs a)
    × ((κs : Lfts 1) (a : _) → to_front.Pre κs a)
    × ((κs : Lfts 1) (a : _) → last_Line.Pre κs a)
no_requires = ((λ κs a. tt), (λ κs a. tt), (λ κs a. tt), (λ κs a. tt), (λ κs a. tt))
