-- What a word form spells: a reserved word where its letters are those of one, and otherwise a name.
use Rattle.std.proofs.Common.{◌≡◌, ℕ, Bool, true, false, cond, ◌&&◌, not, List, [], ◌∷◌, map, refl, sym, ap, ◌∙◌, Option, Some, None, find, ◌⊎◌, inl, inr}
use Rattle.std.specs.Str.{bytes_eq}
use Rattle.std.specs.List.{list_all, list_any}
use Rattle.std.proofs.lemmas.Slice.Eq.{bytes_eq-Decides}
use Rattle.unicode_ident.specs.Ident.{is_xid_start, is_xid_continue}
use Rattle.cc_base.specs.Names.{first_passes, reserved_words, is_reserved, spells_name, IsName}
use Rattle.cc_lex.specs.declared.token.Word.{Word}
use Rattle.cc_lex.specs.Forms.{word_text, IsWord}
use Rattle.cc_lex.specs.Cutting.{all_words, word_of}
use Rattle.cc_lex.proofs.Booleans.{both, both_true, neither, not_true, opposite}

module _ {W : Type 0} (text_of : W → List ℕ) where
  choice-none : (w : W) (o : Option W) (b : Bool) → cond b (Some w) o ≡ None → (b ≡ false) × (o ≡ None)
  choice-none w o true h = cc
  choice-none w o false h = (refl, h)

  find-none : (ws : List W) (cs : List ℕ) → find (λ w. bytes_eq (text_of w) cs) ws ≡ None → list_any (λ w. bytes_eq w cs) (map text_of ws) ≡ false
  find-none [] cs h = refl
  find-none (w ∷ ws) cs h =
      let parts = choice-none w (find (λ w. bytes_eq (text_of w) cs) ws) (bytes_eq (text_of w) cs) h in
      let rest = find-none ws cs parts.1 in
      cc

  choice-some : (w found : W) (o : Option W) (b : Bool) → cond b (Some w) o ≡ Some found → ((b ≡ true) × (w ≡ found)) ⊎ (o ≡ Some found)
  choice-some w found o true h = inl (refl, cc)
  choice-some w found o false h = inr h

  find-some : (ws : List W) (cs : List ℕ) (found : W) → find (λ w. bytes_eq (text_of w) cs) ws ≡ Some found → cs ≡ text_of found
  find-some [] cs found h = cc
  find-some (w ∷ ws) cs found h =
      elim (choice-some w found (find (λ w. bytes_eq (text_of w) cs) ws) (bytes_eq (text_of w) cs) h) as (λ _. cs ≡ text_of found) [
        | inl p ↦ sym ((bytes_eq-Decides (text_of w) cs).0 p.0) ∙ ap text_of p.1
        | inr p ↦ find-some ws cs found p
      ]

-- letters of no reserved word are not reserved
pub is_reserved-none : (cs : List ℕ) → word_of cs ≡ None → is_reserved cs ≡ false
unfolding word_of is_reserved reserved_words
is_reserved-none cs h = find-none word_text all_words cs h

-- a word that is found has these letters
pub word_of-some : (cs : List ℕ) (word : Word) → word_of cs ≡ Some word → cs ≡ word_text word
unfolding word_of
word_of-some cs word h = find-some word_text all_words cs word h

-- a word form with letters of no reserved word is a name
pub name_of-none : (cs : List ℕ) → IsWord cs → word_of cs ≡ None → IsName cs
name_of-none cs h k =
    both_true (first_passes is_xid_start cs && list_all is_xid_continue cs) (not (is_reserved cs))
    (both_true (first_passes is_xid_start cs) (list_all is_xid_continue cs) h.0 h.1) (ap not (is_reserved-none cs k))

pub refused_name : (cs : List ℕ) (o : Option Word) → o ≡ word_of cs → ((word : Word) → o ≡ Some word → ⊥) → IsWord cs → spells_name cs ≡ false → ⊥
refused_name cs None e none h k = opposite (spells_name cs) (name_of-none cs h (sym e)) k
refused_name cs (Some word) e none h k = none word refl

module _ {W : Type 0} (text_of : W → List ℕ) where
  none-found : (ws : List W) (cs : List ℕ) → list_any (λ w. bytes_eq w cs) (map text_of ws) ≡ false → find (λ w. bytes_eq (text_of w) cs) ws ≡ None
  none-found [] cs h = refl
  none-found (w ∷ ws) cs h =
      let parts = neither (bytes_eq (text_of w) cs) (list_any (λ v. bytes_eq v cs) (map text_of ws)) h in
      rw parts.0 (none-found ws cs parts.1)

-- a name is no reserved word
pub word_of-name : (cs : List ℕ) → IsName cs → word_of cs ≡ None
unfolding word_of is_reserved reserved_words
word_of-name cs h =
    none-found word_text all_words cs
    (not_true (is_reserved cs) (both (first_passes is_xid_start cs && list_all is_xid_continue cs) (not (is_reserved cs)) h).1)
