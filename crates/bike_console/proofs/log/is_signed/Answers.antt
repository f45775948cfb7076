use Rattle.std.proofs.Common.{rules, ◌≡◌, ℕ, sym, ap, ap₂, ◌∙◌}
use Rattle.std.proofs.lemmas.Bool.{eqb-true, eq-eqb}
use Rattle.sqlite_wal.specs.Format.{checksum, is_big, part, IsSigned}
use Rattle.bike_console.proofs.log.is_signed.Goals as goal

pub returns-then-sum-word_at : goal.returns-then-sum-word_at
unfolding part
returns-then-sum-word_at c =
    let ours : c.checksum_of-sum.result ≡ checksum (is_big c.args.head.now) (0, 0) (part c.args.head.now 0 24) = c.checksum_of-sum.ensures in (
      λ same. record {
        first = c.if-head-ne55.false;
        second = c.if-head-ne127.false;
        third = c.if-head-ne6.false;
        fourth = search rules;
        sum = sym ours ∙ ap₂ (λ (p q : ℕ). let both : ℕ × ℕ = (p, q) in both) (c.if-sum-word_at.true ∙ c.word_at.ensures) (eqb-true _ _ same ∙ c.word_at-then-sum-word_at.ensures);
      },
      λ signed. eq-eqb _ _ (ap (λ (p : ℕ × ℕ). p.1) (ours ∙ signed.sum) ∙ sym c.word_at-then-sum-word_at.ensures),
    )

pub returns-else-sum-word_at : goal.returns-else-sum-word_at
unfolding part
returns-else-sum-word_at c =
    let ours : c.checksum_of-sum.result ≡ checksum (is_big c.args.head.now) (0, 0) (part c.args.head.now 0 24) = c.checksum_of-sum.ensures in
    let differs : IsSigned c.args.head.now → ⊥ = λ signed. c.if-sum-word_at.false (ap (λ (p : ℕ × ℕ). p.0) (ours ∙ signed.sum) ∙ sym c.word_at.ensures) in (
      λ same. absurd (c.if-sum-word_at.false (eqb-true _ _ same)),
      λ signed. absurd (differs signed),
    )
