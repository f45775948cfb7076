-- The languages of further names.
use Rattle.std.proofs.Common.{◌≡◌, ℕ, List, [], ◌∷◌, map, filter, true, false, cond, Some, refl, sym, ap, ◌∙◌}
use Rattle.std.specs.Prelude.{is_some}
use Rattle.std.specs.Ordering.{eq_by_cmp, is_eq}
use Rattle.std.specs.List.{list_any}
use Rattle.std.specs.Cmp.{tied_itself}
use Rattle.std.specs.Cmp.Lexicographic.{nat_list_cmp_total}
use Rattle.std.specs.FinMap as finmap
use Rattle.bike_fields.specs.declared.name_kind.NameKind.{NameKind}
use Rattle.bike_operator.specs.Operator.{Operator, NameKey, text_cmp}
use Rattle.bike_operator.specs.Names.{is_name_of, further_names, part_at}
use Rattle.bike_feed_texts.specs.Trees.{further_languages}

-- a list whose map has no keys has no entries
no_keys : (es : List (List ℕ × List ℕ)) → finmap.keys (finmap.from_entries {R = text_cmp} es) ≡ [] → es ≡ []
no_keys [] none = refl
no_keys (e ∷ es) none =
    let m = finmap.from_entries {R = text_cmp} (e ∷ es) in
    let own : finmap.contains_key m e.0 ≡ true =
    ap is_some (
    finmap.get-from_entries nat_list_cmp_total (e ∷ es) e.0
    ∙ ap (λ o. cond (is_eq o) (Some e.1) (finmap.find text_cmp e.0 es)) (tied_itself nat_list_cmp_total e.0)
    ) in
    let left : finmap.contains_key m e.0 ≡ false = finmap.contains_key-keys m e.0 ∙ ap (list_any (eq_by_cmp text_cmp e.0)) none in
    let e : true ≡ false = sym own ∙ left in
    absurd (cc e)

no_entries : (es : List (NameKey × List ℕ)) → ◌≡◌ {A = List (List ℕ × List ℕ)} (map (λ e. (part_at e.0 2, e.1)) es) [] → es ≡ []
no_entries [] none = refl
no_entries (e ∷ es) none = absurd (cc none)

-- where there are none, nothing has a further name
pub no_further_names : (s : Operator) (kind : NameKind) (id : List ℕ) → further_languages s ≡ [] → further_names s kind id ≡ []
no_further_names s kind id none =
    ap (λ es. map (λ e. record { language = part_at e.0 2; name = e.1 }) (filter (λ e. is_name_of kind id e.0) es))
    (no_entries (finmap.entries s.more_names) (no_keys _ none))
