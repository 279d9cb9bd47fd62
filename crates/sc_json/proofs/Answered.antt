-- What the reader answers, in the words of the format.
use Rattle.std.proofs.Common.{◌≡◌, ◌⊎◌, inl, inr, ℕ, Bool, true, false, List, Result, Ok, Err, refl, sym, ◌∙◌, IsUtf8}
use Rattle.std.specs.Str.{is_utf8}
use Rattle.std.proofs.lemmas.Str.{IsUtf8-from_is_utf8, is_utf8-from_IsUtf8}
use Rattle.std.specs.Str.Lossy.{utf8_valid_len}
use Rattle.sc_json.specs.declared.tree.Json.{Json}
use Rattle.sc_json.specs.declared.fault.JsonFault.{JsonFault}
use Rattle.sc_json.specs.declared.fault.JsonFault.TheVariants.{Syntax, Duplicate, TooDeep, NumberTooWide, NotUtf8, OutOfMemory}
use Rattle.sc_json.specs.Machine.{read_of, Reads}
use Rattle.sc_json.specs.Faults.{IsFirstFault, JsonFaultOf, Answers}
use Rattle.sc_json.specs.Spells.{Spells}
use Rattle.sc_json.proofs.Spelled.{read_spells, spells_read}
use Rattle.sc_json.proofs.SpelledUtf8.{padded_utf8}
use Rattle.sc_json.proofs.FaultIs.{first_fault, fault_read}
use Rattle.sc_json.proofs.FaultLaws.{cut_is, no_cut}

abbrev Same : Result Json JsonFault → Result Json JsonFault → Type 0
Same r s = r ≡ s

first_of_all : (bytes : List ℕ) (f : JsonFault) → IsUtf8 bytes → IsFirstFault bytes f → JsonFaultOf bytes f
first_of_all bytes (Syntax n) u h = (u, h)
first_of_all bytes (Duplicate n) u h = (u, h)
first_of_all bytes (TooDeep n) u h = (u, h)
first_of_all bytes (NumberTooWide n) u h = (u, h)
first_of_all bytes (NotUtf8 n) u h = absurd h.has
first_of_all bytes OutOfMemory u h = absurd h.has

-- of UTF-8, the fault that is read is the text's fault
pub fault_of_text : (bytes : List ℕ) (f : JsonFault) → IsUtf8 bytes → read_of bytes ≡ Err f → JsonFaultOf bytes f
fault_of_text bytes f u e = first_of_all bytes f u (first_fault bytes f u e)

-- and the text's fault is read
pub text_fault_read : (bytes : List ℕ) (f : JsonFault) → IsUtf8 bytes → JsonFaultOf bytes f → read_of bytes ≡ Err f
text_fault_read bytes (Syntax n) u h = fault_read bytes (Syntax n) u h.1
text_fault_read bytes (Duplicate n) u h = fault_read bytes (Duplicate n) u h.1
text_fault_read bytes (TooDeep n) u h = fault_read bytes (TooDeep n) u h.1
text_fault_read bytes (NumberTooWide n) u h = fault_read bytes (NumberTooWide n) u h.1
text_fault_read bytes (NotUtf8 n) u h = absurd (no_cut bytes n h u)
text_fault_read bytes OutOfMemory u h = absurd h.1.has

-- a text with a fault spells no good tree
pub fault_excludes : (bytes : List ℕ) (f : JsonFault) (tree : Json) → JsonFaultOf bytes f → Spells bytes tree → ⊥
fault_excludes bytes f tree h s = differ (sym (spells_read bytes tree s) ∙ text_fault_read bytes f (padded_utf8 s.text) h)
  where
    differ : Same (Ok tree) (Err f) → ⊥
    differ e = absurd cc

-- and bytes that spell none have one
pub tree_or_fault : (bytes : List ℕ) → ((tree : Json) × Spells bytes tree) ⊎ ((fault : JsonFault) × JsonFaultOf bytes fault)
tree_or_fault bytes = whole (is_utf8 bytes) refl
  where
    read : IsUtf8 bytes → (r : Result Json JsonFault) → read_of bytes ≡ r → ((tree : Json) × Spells bytes tree) ⊎ ((fault : JsonFault) × JsonFaultOf bytes fault)
    read u (Ok tree) e = inl (tree, read_spells bytes tree e)
    read u (Err f) e = inr (f, fault_of_text bytes f u e)

    whole : (b : Bool) → is_utf8 bytes ≡ b → ((tree : Json) × Spells bytes tree) ⊎ ((fault : JsonFault) × JsonFaultOf bytes fault)
    whole true e = read (IsUtf8-from_is_utf8 bytes e) (read_of bytes) refl
    whole false e = inr (NotUtf8 (utf8_valid_len bytes), cut_is bytes (λ u. absurd (let t = is_utf8-from_IsUtf8 bytes u in cc)))

-- ---- answers

pub answers_text : (bytes : List ℕ) (r : Result Json JsonFault) → IsUtf8 bytes → Reads r (read_of bytes) → Answers bytes r
answers_text bytes (Ok tree) u h = read_spells bytes tree h
answers_text bytes (Err (Syntax n)) u h = fault_of_text bytes (Syntax n) u h
answers_text bytes (Err (Duplicate n)) u h = fault_of_text bytes (Duplicate n) u h
answers_text bytes (Err (TooDeep n)) u h = fault_of_text bytes (TooDeep n) u h
answers_text bytes (Err (NumberTooWide n)) u h = fault_of_text bytes (NumberTooWide n) u h
answers_text bytes (Err (NotUtf8 n)) u h = fault_of_text bytes (NotUtf8 n) u h
answers_text bytes (Err OutOfMemory) u h = tt

pub answers_cut : (bytes : List ℕ) → ¬ IsUtf8 bytes → Answers bytes (Err (NotUtf8 (utf8_valid_len bytes)))
answers_cut bytes broken = cut_is bytes broken
