use Rattle.std.proofs.Common.{◌≡◌, ℕ, List, [], ◌∷◌, ◌++◌, if◌then◌else◌, Result, Ok, Err, refl, ap, ◌∙◌, append_assoc, arith, decimal, sym}
use Rattle.std.specs.Prelude.{OnOk, is_ok}
use Rattle.bike_batch.proofs.history.push_line.Goals as goal

-- four fields were put behind a text, with a byte behind each
line_put : (s0 s1 s2 s3 s4 s5 s6 s7 s8 t c k m : List ℕ) → s1 ≡ s0 ++ t → s2 ≡ s1 ++ 9 ∷ [] → s3 ≡ s2 ++ c → s4 ≡ s3 ++ 9 ∷ []
    → s5 ≡ s4 ++ k → s6 ≡ s5 ++ 9 ∷ [] → s7 ≡ s6 ++ m → s8 ≡ s7 ++ 10 ∷ []
    → s8 ≡ s0 ++ ((t ++ 9 ∷ (c ++ 9 ∷ (k ++ 9 ∷ m))) ++ 10 ∷ [])
line_put s0 s1 s2 s3 s4 s5 s6 s7 s8 t c k m e1 e2 e3 e4 e5 e6 e7 e8 = rw (e8, e7, e6, e5, e4, e3, e2, e1) (simp append_assoc refl)

put_as : (new old put bytes : List ℕ) → new ≡ old ++ put → put ≡ bytes → new ≡ old ++ bytes
put_as new old put bytes is same = is ∙ ap (λ (b : List ℕ). old ++ b) same

-- what was put last
last_put : {E P : Type 0} (result : Result (Unit {0}) E) (new old put bytes : List ℕ) → new ≡ (if is_ok result then old ++ put else old)
    → put ≡ bytes
    → (new ≡ old ++ bytes → P)
    → OnOk result P
last_put (Ok x) new old put bytes is same tells = tells (put_as new old put bytes is same)
last_put (Err e) new old put bytes is same tells = tt

pub returns : goal.returns
returns c =
    let time = c.format.ensures.text ∙ ap decimal c.seconds.ensures.value in
    rw (sym c.request.view_is) (
    last_put c.push-4.result _ _ _ _ c.push-4.ensures.bytes (c.push-4.ensures.ascii (omega arith)) (λ put.
    line_put _ _ _ _ _ _ _ _ _ _ _ _ _
    (put_as _ _ _ _ c.in_ok-push_str.ensures.bytes time)
    (put_as _ _ _ _ c.in_ok-push.ensures.bytes (c.in_ok-push.ensures.ascii (omega arith)))
    (put_as _ _ _ _ c.in_ok-push_str-2.ensures.bytes c.as_str.ensures.value)
    (put_as _ _ _ _ c.in_ok-push-2.ensures.bytes (c.in_ok-push-2.ensures.ascii (omega arith)))
    (put_as _ _ _ _ c.in_ok-push_str-3.ensures.bytes c.as_str-2.ensures.value)
    (put_as _ _ _ _ c.in_ok-push-3.ensures.bytes (c.in_ok-push-3.ensures.ascii (omega arith)))
    (put_as _ _ _ _ c.in_ok-push_str-4.ensures.bytes c.as_str-3.ensures.value)
    put))
