-- What was handed to standard output, as far as a contract can say: how many bytes, and that no write failed.
-- Assumes nothing.
use Rattle.std.specs.Prelude.{ℕ, ◌+◌, min, ◌≡◌, Result, Ok}
use Rattle.bench.specs.declared.sending.Sent.{Sent}
use Rattle.bench.specs.declared.sending.Unsent.{Unsent}

-- a count of 64 bits, which stops at 2^64 - 1
abbrev pub capped : ℕ → ℕ
capped n = min n 18446744073709551615

abbrev pub nothing_sent : Sent
nothing_sent = record { bytes = 0 }

-- so many bytes handed over in one piece or in several: where no write has failed in the end, none had before, and
-- the count has grown by all of them
pub record Sends (before : Result Sent Unsent) (bytes : ℕ) (after : Result Sent Unsent) : Type 0 where
  pub whole : (later : Sent) → after ≡ Ok later
      → (sent : Sent) × (before ≡ Ok sent) × (capped later.bytes ≡ capped (sent.bytes + bytes))
