-- What holds where none of some rules is broken, and what is named where one is.
use Rattle.std.proofs.Common.{◌≡◌, ℕ, ◌+◌, ◌*◌, ◌≤◌, Bool, true, false, cond, Option, None, Some, refl}
use Rattle.std.specs.Prelude.{◌&&◌, nat_le}
use Rattle.std.specs.Option.{option_or}
use Rattle.std.proofs.lemmas.Bool.{and_parts, and_from, leb-true, le-leb}
use Rattle.area_format.specs.declared.settings.Settings.{Settings}
use Rattle.area_format.specs.Settings.{IsSettings}
use Rattle.area_format.specs.AreaRead.{first_broken, settings_rules, within}

-- the first rule is kept, and the others
pub kept : (at : ℕ) (holds : Bool) (others : Option ℕ) → cond holds others (Some at) ≡ None → (holds ≡ true) × (others ≡ None)
kept at true others e = (refl, e)
kept at false others e = absurd (cc e)

pub passed : (at : ℕ) (holds : Bool) (others : Option ℕ) → holds ≡ true → others ≡ None → cond holds others (Some at) ≡ None
passed at true others is e = e
passed at false others is e = absurd (cc is)

pub both_none : {A : Type 0} (a b : Option A) → option_or a b ≡ None → (a ≡ None) × (b ≡ None)
both_none None b e = (refl, e)
both_none (Some x) b e = absurd (cc e)

pub none_of_both : {A : Type 0} (a b : Option A) → a ≡ None → b ≡ None → option_or a b ≡ None
none_of_both None b is e = e
none_of_both (Some x) b is e = absurd (cc is)

pub in_limits : (least greatest n : ℕ) → within least greatest n ≡ true → (least ≤ n) × (n ≤ greatest)
in_limits least greatest n e =
    let parts = and_parts (nat_le least n) (nat_le n greatest) e in
    (leb-true least n parts.0, leb-true n greatest parts.1)

pub from_limits : (least greatest n : ℕ) → (least ≤ n) × (n ≤ greatest) → within least greatest n ≡ true
from_limits least greatest n is = and_from (nat_le least n) (nat_le n greatest) (le-leb least n is.0) (le-leb n greatest is.1)

module _ (s : Settings) where
  pub settings_kept : first_broken (settings_rules s) ≡ None → IsSettings s
  settings_kept e =
      let a = kept 11 (within 1 8 s.lanes) _ e in
      let b = kept 13 (within 1 65536 s.pages) _ a.1 in
      let d = kept 17 (within 16 65536 s.nodes) _ b.1 in
      let f = kept 21 (within 4096 1048576 s.txn) _ d.1 in
      let g = kept 25 (within 1048576 134217728 s.segment && nat_le (64 + 32 * (2 * s.txn + 64)) s.segment) None f.1 in
      let last = and_parts (within 1048576 134217728 s.segment) (nat_le (64 + 32 * (2 * s.txn + 64)) s.segment) g.0 in
      record {
        lanes = in_limits 1 8 s.lanes a.0;
        pages = in_limits 1 65536 s.pages b.0;
        nodes = in_limits 16 65536 s.nodes d.0;
        txn = in_limits 4096 1048576 s.txn f.0;
        segment = in_limits 1048576 134217728 s.segment last.0;
        room = leb-true (64 + 32 * (2 * s.txn + 64)) s.segment last.1;
      }

  pub settings_fine : IsSettings s → first_broken (settings_rules s) ≡ None
  settings_fine is =
      passed 11 (within 1 8 s.lanes) _ (from_limits 1 8 s.lanes is.lanes)
      (passed 13 (within 1 65536 s.pages) _ (from_limits 1 65536 s.pages is.pages)
      (passed 17 (within 16 65536 s.nodes) _ (from_limits 16 65536 s.nodes is.nodes)
      (passed 21 (within 4096 1048576 s.txn) _ (from_limits 4096 1048576 s.txn is.txn)
      (passed 25 (within 1048576 134217728 s.segment && nat_le (64 + 32 * (2 * s.txn + 64)) s.segment) None
      (and_from (within 1048576 134217728 s.segment) (nat_le (64 + 32 * (2 * s.txn + 64)) s.segment) (from_limits 1048576 134217728 s.segment is.segment) (le-leb (64 + 32 * (2 * s.txn + 64)) s.segment is.room)) refl))))
