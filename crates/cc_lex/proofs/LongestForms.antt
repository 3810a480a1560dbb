-- What is found at the front of a text is the longest form there, and where none is found no form begins.
use Rattle.std.proofs.Common.{◌≡◌, ℕ, ◌+◌, ◌-◌, ◌≤◌, List, [], ◌∷◌, ◌++◌, length, take, drop, refl, sym, ap, ◌∙◌, arith, Option, Some, None, length-append, append_assoc, take-append-drop}
use Rattle.std.proofs.Math.Seq.{take-append-add}
use Rattle.std.proofs.lemmas.List.{length-take-le, nil_from_length}
use Rattle.cc_lex.specs.declared.form.Form.{Form}
use Rattle.cc_lex.specs.Forms.{IsOfForm, IsForm}
use Rattle.cc_lex.specs.Lexical.{IsLongestForm}
use Rattle.cc_lex.specs.Cutting.{Front, front_of}
use Rattle.cc_lex.proofs.Fronts.{front_of-good}
use Rattle.cc_lex.proofs.Reaches.{Reaches, form-reaches}

pub front-good : (c : ℕ) (cs : List ℕ) (front : Front) → front_of c cs ≡ Some front → (front.1 ≤ length cs) × IsOfForm front.0 (c ∷ take front.1 cs)
front-good c cs front e = let good = front_of-good c cs in rw e at good

-- a form at the front is no longer than what is found
front-reaches : (c : ℕ) (cs es rest : List ℕ) (form : Form) (front : Front) → front_of c cs ≡ Some front → es ++ rest ≡ cs → IsOfForm form (c ∷ es) → length es ≤ front.1
front-reaches c cs es rest form front e s h =
    let reach = form-reaches form (c ∷ es) rest h in
    (rw (s, e) at reach).0

pub found-longest : (c : ℕ) (cs : List ℕ) (front : Front) → front_of c cs ≡ Some front → IsLongestForm (c ∷ take front.1 cs) (drop front.1 cs)
found-longest c cs front e =
    let n = front.1 in
    let good = front-good c cs front e in
    record {
      form = (front.0, good.1);
      longest = λ more rest s h.
          let whole : (take n cs ++ more) ++ rest ≡ cs = append_assoc (take n cs) more rest ∙ (ap (λ xs. take n cs ++ xs) (sym s) ∙ take-append-drop n cs) in
          let within = front-reaches c cs (take n cs ++ more) rest h.0 front e whole h.1 in
          let count = length-append (take n cs) more in
          let taken = length-take-le n cs good.0 in
          nil_from_length more (omega arith);
    }

none-left : (m : ℕ) (after : List ℕ) → m ≤ length after → take m after ≡ [] → m ≡ 0
none-left m after l e =
    let taken = length-take-le m after l in
    let none = ap length e in
    omega arith

same_front : (form : Form) (n : ℕ) (front : Front) → front.0 ≡ form → front.1 ≡ n → front ≡ (form, n)
same_front form n front e h = ap (λ x. (x, front.1)) e ∙ ap (λ y. (form, y)) h

longest-with : (c : ℕ) (es after : List ℕ) (form : Form) (o : Option Front) → front_of c (es ++ after) ≡ o → IsLongestForm (c ∷ es) after → Reaches form (length es) o → o ≡ Some (form, length es)
longest-with c es after form None e longest reach = absurd reach
longest-with c es after form (Some front) e longest reach =
    let good = front-good c (es ++ after) front e in
    let k = length es in
    let m = front.1 - k in
    let count = length-append es after in
    let at : front.1 ≡ k + m = omega (arith, reach.0) in
    let fits : m ≤ length after = omega (arith, good.0) in
    let taken : take front.1 (es ++ after) ≡ es ++ take m after = ap (λ i. take i (es ++ after)) at ∙ take-append-add es after m in
    let form_more : IsOfForm front.0 (c ∷ (es ++ take m after)) = rw taken at good.1 in
    let none = longest.longest (take m after) (drop m after) (sym (take-append-drop m after)) (front.0, form_more) in
    let zero_more = none-left m after fits none in
    let same : front.1 ≡ k = omega arith in
    ap Some (same_front form k front (reach.1 same) same)

pub longest-found : (c : ℕ) (es after : List ℕ) (form : Form) → IsOfForm form (c ∷ es) → IsLongestForm (c ∷ es) after → front_of c (es ++ after) ≡ Some (form, length es)
longest-found c es after form h longest = longest-with c es after form (front_of c (es ++ after)) refl longest (form-reaches form (c ∷ es) after h)

pub form-some : (ds : List ℕ) → IsForm ds → ds ≡ [] → ⊥
form-some ds h e = (rw e at (form-reaches h.0 ds [] h.1))

pub none-begins : (c : ℕ) (cs ds after : List ℕ) → front_of c cs ≡ None → c ∷ cs ≡ ds ++ after → IsForm ds → ⊥
none-begins c cs [] after e s h = form-some [] h refl
none-begins c cs (d ∷ es) after e s h =
    let reach = form-reaches h.0 (d ∷ es) after h.1 in
    let same : front_of d (es ++ after) ≡ None = cc in
    rw same at reach
