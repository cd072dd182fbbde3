-- What is so of a link by the rule at one moment is so by the rule at the start, which is the same.
use Rattle.std.proofs.Common.{⊎_elim, inl, inr, ℕ, List}
use Rattle.record_links.specs.declared.followed.Followed.{Followed}
use Rattle.record_links.specs.Following.{Goes, stays, one_more, IsMoved, Serves, begun, and_then, EndsSo, IsFollowed}
use Rattle.record_links.specs.Replicas.{Held, IsSameRule}
use Rattle.record_links.specs.World.{Numbered}
use Rattle.record_links.proofs.Rules.{takes_then, halts_then, ends_with_then}
use Rattle.record_doors.specs.Links.{IsFollowedLink}

module _ (m n : List (List ℕ) → List ℕ → Type 0) (s t : List (List ℕ) → ℕ) (l k : ℕ) (same : IsSameRule m n s t l k) where
  goes_then : (start held : Held) → Goes n t k start held → Goes m s l start held
  goes_then start held stays = stays
  goes_then start held (one_more old new offer goes takes) =
      one_more old new offer (goes_then start old goes) (takes_then m n s t l k same old offer new takes)

  moved_then : (start final : Held) (followed : Followed) → IsMoved n t k start final followed → IsMoved m s l start final followed
  moved_then start final followed w = (w.0, goes_then start w.0 w.1, halts_then m n s t l k same w.0 final followed w.2)

  serves_then : (start : Held) (bytes : List ℕ) (offers : List (Numbered (List ℕ))) (text left : List ℕ) (held : Held)
      → Serves n t k start bytes offers text left held → Serves m s l start bytes offers text left held
  serves_then start bytes offers text left held begun = begun
  serves_then start bytes offers text left held (and_then first haves before next old new offer serves is takes) =
      and_then first haves before next old new offer (serves_then start bytes first haves before old serves) is
      (takes_then m n s t l k same old offer new takes)

  ends_so_then : (start : Held) (bytes text : List ℕ) (final : Held) (followed : Followed)
      → EndsSo n t k start bytes text final followed → EndsSo m s l start bytes text final followed
  ends_so_then start bytes text final followed w = record {
    offers = w.offers;
    held = w.held;
    left = w.left;
    haves = w.haves;
    last = w.last;
    serves = serves_then start bytes w.offers w.haves w.left w.held w.serves;
    ends = ends_with_then m n s t l k same w.held w.left w.last final followed w.ends;
    whole = w.whole;
  }

  followed_then : (start : Held) (bytes text : List ℕ) (final : Held) (followed : Followed)
      → IsFollowed n t k start bytes text final followed → IsFollowed m s l start bytes text final followed
  followed_then start bytes text final followed w =
      ⊎_elim (λ z. inl z) (λ v. inr (v.0, v.1, ends_so_then start bytes v.0 final followed v.2)) w

  module _ {K : Type 0} (tells : K → Rattle.std.specs.Prelude.Bool) (left written : K → List ℕ) (faults identity : K → ℕ) where
    pub link_then : (followed : Followed) (old : Held) (link : K) (new : Held) (back : K)
        → IsFollowedLink tells left written faults identity n t k followed old link new back
        → IsFollowedLink tells left written faults identity m s l followed old link new back
    link_then followed old link new back w = record {
      moved = moved_then old new followed w.moved;
      served = λ told. (let v = w.served told in (v.0, v.1, followed_then old (left link) v.0 new followed v.2));
      failed = w.failed;
      frame = w.frame;
    }
