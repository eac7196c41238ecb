-- `words::short_index` meets its contract: the entry of the slot of an atom's number tells whether it is a word, and which.
use Prim.Native.Nat.{◌%◌}
use mathlib.Core.Path.{sym, ◌∙◌, ap}
use Rattle.words.specs.Slots.{place_unit}
use Rattle.words.proofs.Slots.{place_found, none_found}
use Rattle.words.proofs.short_index.Goals as goal

pub returns-then-slot_entry-number : goal.returns-then-slot_entry-number
returns-then-slot_entry-number c =
    let again = c.slot_entry-then-slot_entry-number.ensures ∙ sym c.slot_entry.ensures in
    place_found _ _ _ _ c.number-number.ensures c.word_slot-slot.ensures c.slot_entry-then-slot_entry-number.ensures (λ x. (c.type_inv.w x).fits) (ap (λ x. x % place_unit) again ∙ c.if-slot_entry-number.true)

pub returns-else-slot_entry-number : goal.returns-else-slot_entry-number
returns-else-slot_entry-number c = none_found _ _ _ _ c.number-number.ensures c.word_slot-slot.ensures c.slot_entry.ensures c.requires c.if-slot_entry-number.false
