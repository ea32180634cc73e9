-- Stacks that share what is below their tops.
use Rattle.std.specs.Prelude.{◌≡◌, ℕ, suc, ◌<◌, ◌≤◌, List, [], ◌∷◌, ◌++◌, length, get_or, Option, Some, None}
use Rattle.machine_code.specs.Slots.{Slot}
use Rattle.code_verifier.specs.declared.slot.Slot.{Slot as SlotOfCode}
use Rattle.code_verifier.specs.declared.stacks.Entry.{Entry}
use Rattle.code_verifier.specs.declared.stacks.Entry.TheVariants as entries
use Rattle.code_verifier.specs.private.SlotView.{slot_view}

-- the stack of this number; empty if there is none
abbrev pub in_list : List (List Slot) → ℕ → List Slot
in_list known i = get_or known i []

-- the stack that an entry means, on one of the stacks before it
abbrev pub entry_stack : List (List Slot) → Entry → List Slot
entry_stack known entries.Bottom = []
entry_stack known (entries.Above slot below) = slot_view slot ∷ in_list known below

-- the stacks of all entries, after those that are known
abbrev pub stacks_from : List (List Slot) → List Entry → List (List Slot)
stacks_from known [] = known
stacks_from known (e ∷ es) = stacks_from (known ++ entry_stack known e ∷ []) es

-- the stack of this number, among those of the entries
abbrev pub stack_at : List Entry → ℕ → List Slot
stack_at es i = in_list (stacks_from [] es) i

-- the stack below an entry's slot has a smaller number
abbrev pub IsAbove : ℕ → Entry → Type 0
IsAbove n entries.Bottom = Unit {0}
IsAbove n (entries.Above slot below) = below < n

-- for each entry from number `n` on, the stack below its slot has a smaller number than the entry
abbrev pub AreAbove : ℕ → List Entry → Type 0
AreAbove n [] = Unit {0}
AreAbove n (e ∷ es) = IsAbove n e × AreAbove (suc n) es

-- all earlier stacks are as before
pub record Extends (old new : List Entry) : Type 0 where
  pub long : length old ≤ length new
  pub same : (i : ℕ) → i < length old → stack_at new i ≡ stack_at old i

-- the stack of number `i` is new: a slot on an earlier stack
pub record IsPushed (old new : List Entry) (a : Slot) (below i : ℕ) : Type 0 where
  pub extends : Extends old new
  pub inside : i < length new
  pub is : stack_at new i ≡ a ∷ stack_at old below

-- the top of a stack with the number of the stack below it
abbrev pub IsTop : List Entry → ℕ → Option (SlotOfCode × ℕ) → Type 0
IsTop es i None = stack_at es i ≡ []
IsTop es i (Some top) = (top.1 < length es) × (stack_at es i ≡ slot_view top.0 ∷ stack_at es top.1)

-- the slots on a stack; the last of them was its top
abbrev pub piled : List Slot → List Slot → List Slot
piled [] below = below
piled (a ∷ rest) below = piled rest (a ∷ below)
