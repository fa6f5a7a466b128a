-- What a claim is answered, by the claim word that its step finds.
use Rattle.std.specs.Prelude.{ℕ, zero, suc, Bool, if◌then◌else◌}
use Rattle.tide_model.specs.declared.op.Refusal.TheVariants.{ClaimsFull, Held}
use Rattle.tide_model.specs.declared.op.Reply.{Reply}
use Rattle.tide_model.specs.declared.op.Reply.TheVariants.{Done, Refused}

-- a cell that a mutator claims is held by it, and else this is answered
abbrev pub held_or : Reply → ℕ → Reply
held_or otherwise zero = otherwise
held_or otherwise (suc holder) = Refused (Held holder)

-- where nobody claims the cell: a mutator whose claims are full is refused
abbrev pub unheld_reply : Bool → Reply
unheld_reply full = if full then Refused ClaimsFull else Done
