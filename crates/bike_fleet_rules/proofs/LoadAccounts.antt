-- The accounts of trucks, and of orders: each is opened by its own row, and grows by one with each line that loads it.
use Rattle.std.proofs.Common.{◌≡◌, ℕ, zero, suc, [], ◌∷◌, ◌++◌, Bool, cond, Option, Some, None, refl, sym, ap, ◌∙◌}
use Rattle.std.specs.Prelude.{take}
use Rattle.sqlite_value.specs.declared.value.Value.{Value}
use Rattle.sqlite_value.specs.Order.{Row, column}
use Rattle.bike_operator.specs.declared.records.Place.{Place}
use Rattle.bike_book.specs.Rows.{number_value}
use Rattle.bike_judges.specs.declared.pass.Opening.{Opening}
use Rattle.bike_judges.specs.declared.pass.Opening.TheVariants.{Head, Unread, Item}
use Rattle.bike_judges.specs.Lines.{nulls, part}
use Rattle.bike_judges.proofs.StretchLaw.{AreAccounts}
use Rattle.bike_fleet_rules.specs.Loads.{is_head, loads}
use Rattle.bike_fleet_rules.proofs.CountingLaw.{kept_where}
use Rattle.bike_fleet_rules.proofs.LoadLemmas.{loads_own}

first_of : (more spare : ℕ) (row : Row) → column (take (suc more) (row ++ nulls spare)) 0 ≡ column row 0
first_of more spare (v ∷ row) = refl
first_of more zero [] = refl
first_of more (suc spare) [] = refl

-- the account's number, the place of what loads it, and one more of that
module _ {A X : Type 0} (number : A → ℕ) (test : ℕ → Place → Bool) (one_more : A → A) (same_number : (a : A) → number (one_more a) ≡ number a)
    (more spare : ℕ) (read : Row → Option (ℕ × X)) (reads : (row : Row) (x : ℕ × X) → read row ≡ Some x → column row 0 ≡ number_value x.0)
    (opened : Option (ℕ × X) → Opening A) (opens : ℕ × X → A) (unread : opened None ≡ Unread) (opens_it : (x : ℕ × X) → opened (Some x) ≡ Head (opens x))
    (its_number : (x : ℕ × X) → number (opens x) ≡ x.0) (good : ℕ → A → Bool) where
  abbrev begins : Row → Opening A
  begins line = cond (is_head line) (opened (read (part 3 (suc more) line))) Item

  abbrev grows : A → Row → A
  grows a line = cond (loads (test (number a)) (number a) line) (one_more a) a

  abbrev owner : A → Value
  owner a = number_value (number a)

  opened_head : (o : Option (ℕ × X)) → opened o ≡ Item → ⊥
  opened_head None e = let it : Unread ≡ Item = sym unread ∙ e in absurd (cc it)
  opened_head (Some x) e = let it : Head (opens x) ≡ Item = sym (opens_it x) ∙ e in absurd (cc it)

  opened_owner : (o : Option (ℕ × X)) (a : A) (v : Value) → ((x : ℕ × X) → o ≡ Some x → number_value x.0 ≡ v) → opened o ≡ Head a → owner a ≡ v
  opened_owner None a v its e = let it : Unread ≡ Head a = sym unread ∙ e in absurd (cc it)
  opened_owner (Some x) a v its e =
      let it : Head (opens x) ≡ Head a = sym (opens_it x) ∙ e in
      let same : opens x ≡ a = cc it in
      ap number_value (sym (ap number same) ∙ its_number x) ∙ its x refl

  pub load_accounts : AreAccounts begins grows good (λ a. owner a ∷ []) owner spare
  load_accounts = record {
    heads = λ row e. opened_head (read (take (suc more) (row ++ nulls spare))) e;
    owner_is = λ row a e.
        let line = take (suc more) (row ++ nulls spare) in
        opened_owner (read line) a (column row 0) (λ x is. sym (reads line x is) ∙ first_of more spare row) e;
    key_is = λ a. refl;
    keeps = λ a x. kept_where one_more owner (λ b. ap number_value (same_number b)) (λ b. loads (test (number b)) (number b) x) a;
    others = λ a x apart. ap (λ (b : Bool). cond b (one_more a) a) (loads_own (test (number a)) (number a) x apart);
  }
