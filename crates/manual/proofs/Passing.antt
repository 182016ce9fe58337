-- The numbers below a bound that pass a test.
use Rattle.std.proofs.Common.{◌≡◌, ℕ, zero, suc, ◌+◌, ◌<◌, ◌↔◌, Bool, true, false, List, [], ◌∷◌, ◌++◌, filter, refl, sym, ap, ◌∙◌, subst, inl, inr, arith}
use Rattle.std.specs.List.{range_with_len, Contains}
use Rattle.std.proofs.lemmas.Bool.{cases_Bool, cases_eq}
use Rattle.std.proofs.lemmas.List.Elements.{Contains-push, Contains-push_cases, Contains-append_left}
use Rattle.session.proofs.Ranges.{filter_in, filter_out}

abbrev passing : (ℕ → Bool) → ℕ → List ℕ
passing p n = filter p (range_with_len 0 n)

passing_in : (p : ℕ → Bool) (n : ℕ) → p n ≡ true → passing p (suc n) ≡ passing p n ++ n ∷ []
passing_in p n e = let next : suc n ≡ n + 1 = omega arith in ap (passing p) next ∙ filter_in p n e

passing_out : (p : ℕ → Bool) (n : ℕ) → p n ≡ false → passing p (suc n) ≡ passing p n
passing_out p n e = let next : suc n ≡ n + 1 = omega arith in ap (passing p) next ∙ filter_out p n e

pub passing_same : (p q : ℕ → Bool) (n : ℕ) → ((k : ℕ) → k < n → p k ≡ q k) → filter p (range_with_len 0 n) ≡ filter q (range_with_len 0 n)
passing_same p q zero same = refl
passing_same p q (suc n) same =
    let before = passing_same p q n (λ k l. same k (omega (arith, l))) in
    let here = same n (omega arith) in
    elim (cases_Bool (q n)) [
      | inl passes ↦ passing_in p n (here ∙ passes) ∙ ap (λ ks. ks ++ n ∷ []) before ∙ sym (passing_in q n passes)
      | inr fails ↦ passing_out p n (here ∙ fails) ∙ before ∙ sym (passing_out q n fails)
    ]

pub contains_passing : (p : ℕ → Bool) (n x : ℕ) → Contains (filter p (range_with_len 0 n)) x ↔ ((x < n) × (p x ≡ true))
contains_passing p zero x = (λ has. absurd (omega (arith, has.1)), λ (l, _). absurd (omega (arith, l)))
contains_passing p (suc n) x =
    let before = contains_passing p n x in
    let Told : List ℕ → Type 0 = λ ks. Contains ks x ↔ ((x < suc n) × (p x ≡ true)) in
    elim (cases_Bool (p n)) [
      | inl passes ↦
          subst Told (sym (passing_in p n passes)) (
            λ has.
                elim (Contains-push_cases (passing p n) n x has) [
                  | inl old ↦ let (l, e) = before.0 old in (omega (arith, l), e)
                  | inr last ↦ (omega (arith, last), ap p (sym last) ∙ passes)
                ],
            λ (l, e).
                elim (cases_eq x n) [
                  | inl last ↦ rw last (Contains-push (passing p n) n)
                  | inr other ↦ Contains-append_left (passing p n) (n ∷ []) x (before.1 (omega (arith, l, other), e))
                ],
          )
      | inr fails ↦
          subst Told (sym (passing_out p n fails)) (
            λ has. let (l, e) = before.0 has in (omega (arith, l), e),
            λ (l, e).
                elim (cases_eq x n) [
                  | inl last ↦ let clash = sym e ∙ ap p last ∙ fails in absurd (cc)
                  | inr other ↦ before.1 (omega (arith, l, other), e)
                ],
          )
    ]
