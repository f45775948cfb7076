use Rattle.std.proofs.Common.{List, ℕ, Bor, rules, sym, ◌∙◌}
use Rattle.std.proofs.lemmas.Iterator.{YieldsList-from_slice}
use Rattle.std.proofs.lemmas.Iterator.Search.{all_from_yields_List}
use Rattle.std.proofs.lemmas.List.Folds.{list_all-map}
use borrow.Author.Tests.{tests}
use Rattle.bike_schema.specs.Indexes.{is_free}
use Rattle.bike_schema.proofs.schema.are_free.Goals as goal

pub returns : goal.returns
returns c =
    all_from_yields_List (λ (name : Bor (List ℕ)). is_free c.args.schema.now name.now) _ _ c.all.result c.all.ensures.ran (YieldsList-from_slice _ c.iter.ensures.rest)
    (λ x b q k. search (rules, tests))
    ∙ sym (list_all-map (is_free c.args.schema.now) (λ (name : Bor (List ℕ)). name.now) c.args.names.now)
