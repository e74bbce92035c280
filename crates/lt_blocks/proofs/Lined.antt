-- Lines and what is missing of them.
use Rattle.std.proofs.Common.{◌≡◌, ◌<◌, ◌^◌, ℕ, List, [], ◌∷◌, ◌++◌, refl, sym, subst, ◌∙◌, append_assoc, decimal, codes, arith}
use Rattle.std.proofs.lemmas.List.{append_cancel_left}
use Rattle.lt_blocks.specs.declared.words.Header.{Header}
use Rattle.lt_batch.specs.declared.replaying.Written.{Written}
use Rattle.lt_blocks.specs.Lines.{entry_words, header_words, script_words, IsEntry, IsHeader, Lacks}
use Rattle.lt_blocks.proofs.Cuts.{cut_same, lacks_both, stands}
use Rattle.lt_blocks.proofs.Numbers.{behind_number, decimal_lacks}

pub header_parts : (h : Header) → header_words h ≡ codes "trace " ++ (decimal h.batch ++ (32 ∷ (decimal h.programs ++ (32 ∷ decimal h.entries))))
header_parts h = refl

pub entry_parts : (e : Written) → entry_words e ≡ decimal e.worker ++ (32 ∷ decimal e.code)
entry_parts e = refl

-- none of them has a line feed
module _ (c : ℕ) (low : c < 48) (other : 32 ≡ c → ⊥) where
  numbers_lack : (m : ℕ) (xs : List ℕ) → m < 2 ^ 32 → Lacks c xs → Lacks c (decimal m ++ (32 ∷ xs))
  numbers_lack m xs small p = lacks_both c (decimal m) (32 ∷ xs) (decimal_lacks c m low small) (other, p)

pub header_lacks : (h : Header) → IsHeader h → Lacks 10 (header_words h)
header_lacks h w =
    lacks_both 10 (codes "trace ") _ ((λ e. absurd (omega (arith, e))), ((λ e. absurd (omega (arith, e))), ((λ e. absurd (omega (arith, e))), ((λ e. absurd (omega (arith, e))), ((λ e. absurd (omega (arith, e))), ((λ e. absurd (omega (arith, e))), tt))))))
    (numbers_lack 10 (omega arith) (λ e. absurd (omega (arith, e))) h.batch _ w.batch (numbers_lack 10 (omega arith) (λ e. absurd (omega (arith, e))) h.programs _ w.programs (decimal_lacks 10 h.entries (omega arith) w.entries)))

pub entry_lacks : (e : Written) → IsEntry e → Lacks 10 (entry_words e)
entry_lacks e w = numbers_lack 10 (omega arith) (λ e. absurd (omega (arith, e))) e.worker _ w.worker (decimal_lacks 10 e.code (omega arith) w.code)

pub script_lacks : Lacks 10 script_words
script_lacks = ((λ e. absurd (omega (arith, e))), ((λ e. absurd (omega (arith, e))), ((λ e. absurd (omega (arith, e))), ((λ e. absurd (omega (arith, e))), ((λ e. absurd (omega (arith, e))), ((λ e. absurd (omega (arith, e))), tt))))))

-- a line that ended isn't another line
pub ended_as : (line words behind more : List ℕ) → Lacks 10 line → Lacks 10 words → line ++ (10 ∷ behind) ≡ (words ++ 10 ∷ []) ++ more → line ≡ words
ended_as line words behind more p q e = (cut_same 10 line words behind more p q (e ∙ append_assoc words (10 ∷ []) more)).0

-- a line that hasn't ended is none
pub unended : (line words more : List ℕ) → Lacks 10 line → line ≡ (words ++ 10 ∷ []) ++ more → ⊥
unended line words more p e = stands 10 words more (subst (Lacks 10) (e ∙ append_assoc words (10 ∷ []) more) p)

-- ---- the first line of a block, number by number

module _ (h : Header) (w : IsHeader h) (line rest : List ℕ) (is : line ≡ header_words h) (first : line ≡ codes "trace " ++ rest) where
  pub batch_first : rest ≡ decimal h.batch ++ (32 ∷ (decimal h.programs ++ (32 ∷ decimal h.entries)))
  batch_first = append_cancel_left (codes "trace ") rest (decimal h.batch ++ (32 ∷ (decimal h.programs ++ (32 ∷ decimal h.entries)))) (sym first ∙ is)

  module _ (batch : ℕ) (second : List ℕ) (small : batch < 2 ^ 32) (number : rest ≡ decimal batch ++ (32 ∷ second)) where
    pub programs_next : second ≡ decimal h.programs ++ (32 ∷ decimal h.entries)
    programs_next = behind_number batch h.batch second (decimal h.programs ++ (32 ∷ decimal h.entries)) small w.batch (sym number ∙ batch_first)

    pub entries_last : (programs : ℕ) (third : List ℕ) → programs < 2 ^ 32 → second ≡ decimal programs ++ (32 ∷ third) → third ≡ decimal h.entries
    entries_last programs third low e = behind_number programs h.programs third (decimal h.entries) low w.programs (sym e ∙ programs_next)

-- ---- an entry

pub code_last : (e : Written) → IsEntry e → (line : List ℕ) → line ≡ entry_words e → (worker : ℕ) (rest : List ℕ) → worker < 2 ^ 32 → line ≡ decimal worker ++ (32 ∷ rest) → rest ≡ decimal e.code
code_last e w line is worker rest small first = behind_number worker e.worker rest (decimal e.code) small w.worker (sym first ∙ is)
