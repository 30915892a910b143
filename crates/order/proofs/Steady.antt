-- Events that change neither the order nor what has ended: a quiet call, a post or a collect that begins, a stamp taken.
use Rattle.std.proofs.Common.{◌≡◌, ℕ, suc, ◌<◌, List, length, refl, inl, inr, arith}
use Rattle.std.specs.List.{AllByRecursion}
use Rattle.std.proofs.ByRecursion.{All-weaker}
use Rattle.order.specs.Tables.{upd}
use Rattle.order.specs.SingleFile.{Act}
use Rattle.order.specs.Logs.{Ended}
use Rattle.order.specs.Books.{Book, Collect, Post, book_collect, book_post, book_tick}
use Rattle.order.specs.Books.Post.{begun, idle, stamped}
use Rattle.order.specs.Books.Collect.{at_rest, looking}
use Rattle.order.proofs.Lists.{upd_all, upd_other, upd_same}
use Rattle.order.proofs.Invariant.{BegunBefore, CollectOk, EarlierThan, EndedOther, FetchedBefore, IsGone, IsHeld, LaneOk, NotBegunAt, Placed, RefusedBefore, Settled, Timed, Unplaced, View, view}
use Rattle.order.proofs.Facts.{acts_next, all_timed_next, begun_not_gone, ended_next, fetched_before, gone_after, gone_from, idle_not_gone, none_fetched, refused_before, stamped_not_gone}
use Rattle.order.proofs.Framing.{Keeps, collect_stays, lane_stays}

module _
    {P : Type 0} (cap : ℕ) (ds : List (Ended P)) (book : Book P) (v : Placed cap ds book)
    (owner' : ℕ → ℕ) (posts' : ℕ → Post P) (collect' : Collect P) (top' : ℕ) (same : (b : ℕ) → b < book.now → owner' b ≡ v.owner b)
  where
    abbrev book' : Book P
    book' = record { now = suc book.now; posts = posts'; waiting = book.waiting; collect = collect'; top = top' }

    abbrev was : View P
    was = view ds book v.owner v.order v.back

    abbrev pub steady_view : View P
    steady_view = view ds book' owner' v.order v.back

    keeps : (who : ℕ) → Keeps was steady_view who
    keeps who = record { later = omega arith; owned = same; unended = λ b o h. h; unplaced = λ b o h. h }

    pub lane_steady : (l : ℕ) → LaneOk cap steady_view l (length (book.waiting l)) (book.posts l)
    lane_steady l =
        let n = length (book.waiting l) in
        lane_stays was steady_view cap l n n (book.posts l) (keeps (suc l)) (λ b h. h) (λ t h. omega arith) (v.core.lanes l)

    pub collect_steady : CollectOk steady_view book.collect
    collect_steady = collect_stays was steady_view book.collect (keeps 0) (λ b h. h) v.core.collector

    pub steady :
        ((l : ℕ) → LaneOk cap steady_view l (length (book.waiting l)) (posts' l)) → CollectOk steady_view collect'
        → ((a : Act P) → IsHeld book.collect a → IsHeld collect' a) → ((a : Act P) → IsHeld collect' a → IsHeld book.collect a)
        → ((a : Act P) → IsGone book.posts a → IsGone posts' a) → ((a : Act P) → IsGone posts' a → IsGone book.posts a)
        → Placed cap ds book'
    steady ls cs held unheld left stays =
        let c = v.core in
        record {
          owner = owner';
          order = v.order;
          front = v.front;
          back = v.back;
          first_stands = v.first_stands;
          split = v.split;
          core =
              record {
                levels = c.levels;
                waiting = c.waiting;
                sorted = c.sorted;
                timed = all_timed_next book.now v.back c.timed;
                ends_late = c.ends_late;
                room = c.room;
                lanes = ls;
                collector = cs;
                precede = c.precede;
                past = acts_next book.now v.order c.past;
                past_ended = ended_next book.now ds c.past_ended;
                ended_apart = c.ended_apart;
                settled = All-weaker (Settled ds book) (Settled ds book') (λ a h. elim h [ inl k ↦ inl k | inr (inl k) ↦ inr (inl (held a k)) | inr (inr k) ↦ inr (inr (left a k)) ]) v.order c.settled;
                whole = λ a h. c.whole a (elim h [ inl k ↦ inl k | inr (inl k) ↦ inr (inl (unheld a k)) | inr (inr k) ↦ inr (inr (stays a k)) ]);
              };
        }

module _ {P : Type 0} (cap : ℕ) (ds : List (Ended P)) (book : Book P) (v : Placed cap ds book) where
  pub tick_keeps : Placed cap ds (book_tick book)
  tick_keeps =
      let same : (b : ℕ) → b < book.now → v.owner b ≡ v.owner b = λ b h. refl in
      steady cap ds book v v.owner book.posts book.collect book.top same
      (lane_steady cap ds book v v.owner book.posts book.collect book.top same)
      (collect_steady cap ds book v v.owner book.posts book.collect book.top same)
      (λ a h. h) (λ a h. h) (λ a h. h) (λ a h. h)

  -- what begins now is open to its party, and has no place
  abbrev owner_now : ℕ → ℕ → ℕ
  owner_now who = upd v.owner book.now who

  owner_before : (who b : ℕ) → b < book.now → owner_now who b ≡ v.owner b
  owner_before who b h = upd_other v.owner book.now who b (λ e. omega arith)

  unended_now : AllByRecursion (EndedOther book.now) ds
  unended_now = All-weaker (EarlierThan book.now) (EndedOther book.now) (λ d h e. omega arith) ds v.core.past_ended

  unplaced_now : Unplaced v.order book.now
  unplaced_now = All-weaker (BegunBefore book.now) (NotBegunAt book.now) (λ d h e. omega arith) v.order v.core.past

  pub began_post_keeps : (r : ℕ) (x : P) → book.posts r ≡ idle → Placed cap ds (book_post book r (begun book.now x))
  began_post_keeps r x e =
      let n = book.now in
      let c = v.core in
      let p : Post P = begun n x in
      let ps : ℕ → Post P = upd book.posts r p in
      let o = owner_now (suc r) in
      let now_view = steady_view cap ds book v o ps book.collect book.top (owner_before (suc r)) in
      let here : LaneOk cap now_view r (length (book.waiting r)) p = (
        (omega arith, upd_same v.owner n (suc r), unended_now),
        unplaced_now,
        All-weaker (Timed n) (RefusedBefore r n) (refused_before r n) v.back c.timed,
      ) in
      steady cap ds book v o ps book.collect book.top (owner_before (suc r))
      (upd_all (λ l p. LaneOk cap now_view l (length (book.waiting l)) p) book.posts r p here (λ l _. lane_steady cap ds book v o ps book.collect book.top (owner_before (suc r)) l))
      (collect_steady cap ds book v o ps book.collect book.top (owner_before (suc r)))
      (λ a h. h) (λ a h. h)
      (λ a h. gone_after book.posts r p a (rw e idle_not_gone) h)
      (λ a h. gone_from book.posts r p a (begun_not_gone n x) h)

  pub took_keeps :
      (r s b : ℕ) (x : P) → book.posts r ≡ begun b x → length (book.waiting r) < cap
      → Placed cap ds (record { now = suc book.now; posts = upd book.posts r (stamped b x s book.now); waiting = book.waiting; collect = book.collect; top = suc s })
  took_keeps r s b x e m =
      let n = book.now in
      let c = v.core in
      let p : Post P = stamped b x s n in
      let ps : ℕ → Post P = upd book.posts r p in
      let o = v.owner in
      let same : (b : ℕ) → b < n → o b ≡ o b = λ b h. refl in
      let now_view = steady_view cap ds book v o ps book.collect (suc s) same in
      let was_begun : LaneOk cap (view ds book o v.order v.back) r (length (book.waiting r)) (begun b x) = rw e at (c.lanes r) in
      let is_begun : LaneOk cap now_view r (length (book.waiting r)) (begun b x) = rw e at (lane_steady cap ds book v o ps book.collect (suc s) same r) in
      let here : LaneOk cap now_view r (length (book.waiting r)) p =
      (is_begun.0, is_begun.1, is_begun.2, omega (arith, was_begun.0.0), omega arith, omega (arith, none_fetched r n v.back c.timed)) in
      steady cap ds book v o ps book.collect (suc s) same
      (upd_all (λ l p. LaneOk cap now_view l (length (book.waiting l)) p) book.posts r p here (λ l _. lane_steady cap ds book v o ps book.collect (suc s) same l))
      (collect_steady cap ds book v o ps book.collect (suc s) same)
      (λ a h. h) (λ a h. h)
      (λ a h. gone_after book.posts r p a (rw e (begun_not_gone b x)) h)
      (λ a h. gone_from book.posts r p a (stamped_not_gone b x s n) h)

  pub began_collect_keeps : book.collect ≡ at_rest → Placed cap ds (book_collect book (looking book.now))
  began_collect_keeps e =
      let n = book.now in
      let o = owner_now 0 in
      let now_view = steady_view cap ds book v o book.posts (looking n) book.top (owner_before 0) in
      let here : CollectOk now_view (looking n) =
      ((omega arith, upd_same v.owner n 0, unended_now), unplaced_now, All-weaker (Timed n) (FetchedBefore n) (fetched_before n) v.back v.core.timed) in
      steady cap ds book v o book.posts (looking n) book.top (owner_before 0)
      (lane_steady cap ds book v o book.posts (looking n) book.top (owner_before 0))
      here
      (λ a (b, f, z, q). absurd (let y : ◌≡◌ {A = ℕ} 0 1 = cc in omega arith))
      (λ a (b, f, z, q). absurd (let y : ◌≡◌ {A = ℕ} 0 1 = cc in omega arith))
      (λ a h. h) (λ a h. h)
