-- What calls answer, in words.
-- Assumes nothing.
use Rattle.std.specs.Prelude.{ℕ, ◌++◌, List, Bool, true, false, Option, Some, Result, Ok, Err, codes, decimal}
use Rattle.mctp.specs.declared.refusal.Refusal.{Refusal}
use Rattle.mctp.specs.Refusals.{number_of}

-- a refusal by its number
abbrev pub refused_text : Refusal → List ℕ
refused_text why = codes "refused " ++ decimal (number_of why)

-- what was answered in words of its own, or the refusal by its number
abbrev pub answer_text : {T : Type 0} → (T → Option (List ℕ)) → Result T Refusal → Option (List ℕ)
answer_text text (Ok answer) = text answer
answer_text text (Err why) = Some (refused_text why)

-- the end of what is said of a packet in a PCC region
abbrev pub notify_text : Bool → List ℕ
notify_text true = codes " bytes, notify set"
notify_text false = codes " bytes, notify clear"
