-- Each turn writes one page more.
use Prim.Native.Nat.{◌+◌, ◌*◌, ◌≤◌, ◌-◌}
use mathlib.Core.Path.{◌≡◌, ◌∙◌}
use native.Mathlib.Omega.{arith}
use lib.ListN.{length}
use Rattle.views.proofs.Pages.{page_length}
use Rattle.shares.proofs.Stamps.{page_size, page_under, page_more}
use Rattle.shares.proofs.many.lay_disk_words.Goals as goal

pub loop-j-preserved : goal.loop-j-preserved
loop-j-preserved c =
    let a = c.args in
    let v = c.loop-j in
    let e = c.lay_disk.ensures in
    let k = a.at + 16 * v.j + 16 - (a.at + 16 * v.j) in
    let z : k ≡ 16 = omega arith in
    let m : a.at + 16 * v.j + 16 ≤ length v.words = omega arith in (
      page_size a.at v.j k v.words e (page_length _) z m ∙ v.invariant.0,
      page_under a.at v.j k v.words e (page_length _) z m a.words.now v.invariant.1,
      page_more a.at v.j k v.words e (page_length _) z m v.invariant.2,
    )
