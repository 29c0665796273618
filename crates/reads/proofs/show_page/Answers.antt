-- The serving copy's sixteen words are the page as of s, and where none serves so is what the tables show.
use mathlib.Core.Path.{◌∙◌}
use borrow.Author.Rules.{rules}
use Rattle.tables.proofs.Rows.{copies_length}
use Rattle.reads.proofs.Served.{shown_served, shown_looked}
use Rattle.reads.proofs.show_page.Goals as goal

pub returns-in-Some : goal.returns-in-Some
returns-in-Some c =
    let st = c.args.store.now in
    c.sixteen.ensures ∙ shown_served st c.args.page c.args.s c.requires.copies_bound.0 (copies_length _ _ (search rules)) (search rules) c.in-Some.i c.in-Some.ensures

pub returns-in-None : goal.returns-in-None
returns-in-None c =
    let st = c.args.store.now in
    c.look_at.ensures st.snapshots st.copies st.copied
    ∙ shown_looked st c.args.page c.args.s c.requires.copies_bound.0 (copies_length _ _ (search rules)) c.in-None.ensures
