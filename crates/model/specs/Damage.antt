-- Document 01, "Numbers answered", Damaged: "a count over its limit, an object or page number out of range, two pending
-- entries for one object, or snapshots that are 0, beyond H or not strictly ascending."
use Rattle.std.specs.Prelude.{Bool, not, map, length, ltb, leb}
use Rattle.model.specs.Limits.{pages, objects, most_pending, most_past, most_snapshots, most_copies}
use Rattle.model.specs.Lists.{either, any_b, twice_b, rising_from}
use Rattle.model.specs.Store.{Store}

unfoldable pub overfull : Store → Bool
overfull st =
    either (ltb most_pending (length st.pending))
    (either (ltb most_past (length st.past))
    (either (ltb most_snapshots (length st.snapshots)) (ltb most_copies (length st.copies))))

unfoldable pub misnumbered : Store → Bool
misnumbered st =
    either (any_b (λ e. leb objects e.object) st.pending)
    (either (any_b (λ q. leb objects q.object) st.past) (any_b (λ c. leb pages c.page) st.copies))

unfoldable pub doubled : Store → Bool
doubled st = twice_b (map (λ e. e.object) st.pending)

unfoldable pub misordered : Store → Bool
misordered st = either (not (rising_from 0 st.snapshots)) (any_b (ltb st.horizon) st.snapshots)

unfoldable pub damaged : Store → Bool
damaged st = either (overfull st) (either (misnumbered st) (either (doubled st) (misordered st)))
