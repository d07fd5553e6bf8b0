mod Apart
mod KeyMarks
mod MoreKeys
