-- Each spot's own function is equal to the definition at that spot.
use Rattle.slub_core.specs.Facts.{setup_of}
use Rattle.slub_alloc_paths.proofs.advance.alloc_advance.Goals as goal

pub returns-in-LoadCpu : goal.returns-in-LoadCpu
returns-in-LoadCpu c = λ means. rw c.in-LoadCpu.is (c.cpu_loaded.ensures means)

pub returns-in-LoadNext : goal.returns-in-LoadNext
returns-in-LoadNext c = λ means. rw c.in-LoadNext.is (c.next_loaded.ensures means)

pub returns-in-Pop : goal.returns-in-Pop
returns-in-Pop c = λ means. rw c.in-Pop.is (c.popped.ensures means)

pub returns-in-Detach : goal.returns-in-Detach
returns-in-Detach c = λ means. rw c.in-Detach.is (c.detached.ensures (setup_of c.args.setup.now means))

pub returns-in-LoadTaken : goal.returns-in-LoadTaken
returns-in-LoadTaken c = λ means. rw c.in-LoadTaken.is (c.taken_loaded.ensures (setup_of c.args.setup.now means))

pub returns-in-TakeAll : goal.returns-in-TakeAll
returns-in-TakeAll c = λ means. rw c.in-TakeAll.is (c.all_taken.ensures (setup_of c.args.setup.now means))

pub returns-in-MarkFull : goal.returns-in-MarkFull
returns-in-MarkFull c = λ means. rw c.in-MarkFull.is (c.full_marked.ensures (setup_of c.args.setup.now means))

pub returns-in-TakeList : goal.returns-in-TakeList
returns-in-TakeList c = λ means. rw c.in-TakeList.is (c.list_taken.ensures (setup_of c.args.setup.now means))

pub returns-in-FollowFront : goal.returns-in-FollowFront
returns-in-FollowFront c = λ means. rw c.in-FollowFront.is (c.front_followed.ensures (setup_of c.args.setup.now means))

pub returns-in-LoadKept : goal.returns-in-LoadKept
returns-in-LoadKept c = λ means. rw c.in-LoadKept.is (c.kept_loaded.ensures (setup_of c.args.setup.now means))

pub returns-in-FreezeKept : goal.returns-in-FreezeKept
returns-in-FreezeKept c = λ means. rw c.in-FreezeKept.is (c.kept_frozen.ensures (setup_of c.args.setup.now means))

pub returns-in-LockNode : goal.returns-in-LockNode
returns-in-LockNode c = λ means. rw c.in-LockNode.is (c.node_locked.ensures (setup_of c.args.setup.now means))

pub returns-in-LoadPopped : goal.returns-in-LoadPopped
returns-in-LoadPopped c = λ means. rw c.in-LoadPopped.is (c.popped_loaded.ensures (setup_of c.args.setup.now means))

pub returns-in-FreezePopped : goal.returns-in-FreezePopped
returns-in-FreezePopped c = λ means. rw c.in-FreezePopped.is (c.popped_frozen.ensures (setup_of c.args.setup.now means))

pub returns-in-Unlist : goal.returns-in-Unlist
returns-in-Unlist c = λ means. rw c.in-Unlist.is (c.unlisted.ensures (setup_of c.args.setup.now means))

pub returns-in-GiveNode : goal.returns-in-GiveNode
returns-in-GiveNode c = λ means. rw c.in-GiveNode.is (c.node_given.ensures (setup_of c.args.setup.now means))

pub returns-in-LockPool : goal.returns-in-LockPool
returns-in-LockPool c = λ means. rw c.in-LockPool.is (c.pool_locked.ensures (setup_of c.args.setup.now means))

pub returns-in-GivePool : goal.returns-in-GivePool
returns-in-GivePool c = λ means. rw c.in-GivePool.is (c.pool_given.ensures (setup_of c.args.setup.now means))

pub returns-in-GiveDry : goal.returns-in-GiveDry
returns-in-GiveDry c = λ means. rw c.in-GiveDry.is (c.dry_given.ensures (setup_of c.args.setup.now means))

pub returns-in-LinkNew : goal.returns-in-LinkNew
returns-in-LinkNew c = λ means. rw c.in-LinkNew.is (c.new_linked.ensures (setup_of c.args.setup.now means))

pub returns-in-Make : goal.returns-in-Make
returns-in-Make c = λ means. rw c.in-Make.is (c.made.ensures (setup_of c.args.setup.now means))

pub returns-in-LoadReady : goal.returns-in-LoadReady
returns-in-LoadReady c = λ means. rw c.in-LoadReady.is (c.ready_loaded.ensures means)

pub returns-in-LoadAgain : goal.returns-in-LoadAgain
returns-in-LoadAgain c = λ means. rw c.in-LoadAgain.is (c.again_loaded.ensures means)

pub returns-in-DetachOther : goal.returns-in-DetachOther
returns-in-DetachOther c = λ means. rw c.in-DetachOther.is (c.other_detached.ensures means)

pub returns-in-Install : goal.returns-in-Install
returns-in-Install c = λ means. rw c.in-Install.is (c.installed.ensures means)
